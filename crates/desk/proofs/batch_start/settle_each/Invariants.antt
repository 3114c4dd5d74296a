use Rattle.std.proofs.Common.{◌≡◌, ◌≤◌, [], length, take, vec_len}
use Rattle.std.specs.Prelude.{vec_capacity}
use Rattle.desk.specs.auxiliary.Verdicts.{JudgesEach}
use Rattle.desk.specs.{Calls.settings_view, Outcome.Call, Outcome.Fine, Together.questions_view}
use Rattle.desk.proofs.batch_start.settle_each.Given as goal

abbrev pub invariant-loop-question : goal.invariant-loop-question
invariant-loop-question g l = record {
  many : vec_len l.verdicts ≡ l.question-index;
  room : length l.asked ≤ vec_capacity l.verdicts;
  judges : (reserving : Call) → (reserving ≡ Fine → ⊥) → JudgesEach g.B.Standing (settings_view l.settings)
      (questions_view (take l.question-index l.asked)) l.verdicts.items [] l.fn.store l.store;
}
