use Rattle.std.proofs.Common.{◌≡◌, ◌≤◌, List, length, take, vec_len}
use Rattle.std.specs.Prelude.{vec_capacity}
use Rattle.desk.specs.Asked.{commands_view, answers_view}
use Rattle.desk.specs.{Calls.settings_view, Outcome.Outcome, RunContract.AreSteps}
use Rattle.desk.proofs.run.obey_each.Given as goal

abbrev pub invariant-loop-command : goal.invariant-loop-command
invariant-loop-command g l = record {
  counted : vec_len l.answers ≡ l.command-index;
  room : length l.commands ≤ vec_capacity l.answers;
  steps : (os : List Outcome) × AreSteps g.B.Standing g.G.Signer.signs g.G.Signer.fault_count (settings_view l.settings)
      (commands_view (take l.command-index l.commands)) os (answers_view l.answers.items) l.fn.store l.fn.signer
      (settings_view l.current) l.store l.signer;
}
