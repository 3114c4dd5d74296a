-- All are the same if those are that are left.
use Rattle.std.proofs.Common.{◌≡◌}
use Rattle.std.specs.Prelude.{◌↔◌}
use Rattle.judgement.proofs.row.are_same_extensions.Given as goal

abbrev pub invariant-loop-extension : goal.invariant-loop-extension
invariant-loop-extension l = (l.fn.one ≡ l.fn.other) ↔ (l.extension-iterator ≡ l.others)
