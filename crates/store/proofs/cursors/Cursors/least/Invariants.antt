use Rattle.store.proofs.Words.{drop, ◌≡◌}
use Rattle.store.specs.auxiliary.Steps.{least_in}
use Rattle.store.proofs.cursors.Cursors.least.Given as goal

abbrev pub invariant-loop-number : goal.invariant-loop-number
invariant-loop-number l =
    least_in l.least (drop l.number-index l.self.shared.items) ≡ least_in l.self.own l.self.shared.items
