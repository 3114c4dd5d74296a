-- They are the first of all.
use Rattle.store.proofs.{Words.length, Words.map, Words.◌-◌, Words.◌^◌, Gathered.HasGathered}
use Rattle.store.proofs.store.Store.all.Given as goal

abbrev pub invariant-loop-found : goal.invariant-loop-found
invariant-loop-found g l =
    HasGathered g.S.Store g.T.Numbered.all l.fn.self l.self (map g.T.Numbered.value l.found.items)

abbrev pub decreases-loop-found : goal.decreases-loop-found
decreases-loop-found g l = 2 ^ 63 - length l.found.items
