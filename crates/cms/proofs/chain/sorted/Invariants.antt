use Rattle.std.proofs.Common.{◌≡◌, drop, map}
use Rattle.cms.specs.SetOf.{inserted_all, ascending}
use Rattle.cms.proofs.chain.sorted.Given as goal

-- with those that are left all are in order
abbrev pub invariant-loop-one : goal.invariant-loop-one
invariant-loop-one l =
    inserted_all (map (λ o. o.now) l.sorted.items) (drop l.one-index (map (λ o. o.now) l.octets))
    ≡ ascending (map (λ o. o.now) l.octets)
