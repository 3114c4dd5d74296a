use Rattle.store.proofs.Words.{Some, replicate, ◌≡◌}
use Rattle.store.proofs.cursors.Cursors.new.Given as goal

abbrev pub invariant-loop : goal.invariant-loop
invariant-loop l = l.shared.items ≡ replicate l.counter (Some 0)
