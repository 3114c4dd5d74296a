use Rattle.std.proofs.Common.{◌≡◌, ◌++◌, drop, map}
use Rattle.cms.specs.Grammar.{joined}
use Rattle.cms.proofs.chain.join_ascending.Given as goal

-- with those that are left all are joined
abbrev pub invariant-loop-one : goal.invariant-loop-one
invariant-loop-one l =
    l.joint.items ++ joined (drop l.one-index (map (λ o. o.now) l.one-items)) ≡ joined (map (λ o. o.now) l.one-items)
