use Rattle.std.proofs.Common.{◌≡◌, ◌≤◌, length, take, vec_len}
use Rattle.std.specs.Prelude.{vec_capacity}
use Rattle.desk.specs.{Calls.settings_view, Together.questions_view, auxiliary.Verdicts.JudgesEach}
use Rattle.desk.proofs.batch_start.judge_each.Given as goal

abbrev pub invariant-loop-question : goal.invariant-loop-question
invariant-loop-question g l = record {
  many : vec_len l.verdicts ≡ l.question-index;
  few : vec_len l.waits ≤ l.question-index;
  verdicts_room : length l.asked ≤ vec_capacity l.verdicts;
  waits_room : length l.asked ≤ vec_capacity l.waits;
  judges : JudgesEach g.B.Standing (settings_view l.settings) (questions_view (take l.question-index l.asked))
      l.verdicts.items l.waits.items l.fn.store l.store;
}
