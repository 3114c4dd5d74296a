use Rattle.std.proofs.Common.{map, take}
use Rattle.std.specs.List.{AllByRecursion}
use Rattle.der.specs.ObjectIdentifier.{IsOid}
use Rattle.policy.specs.View.{tsa_policy_view}
use Rattle.desk.proofs.settings.has_object_identifiers.Given as goal

abbrev pub invariant-loop-policy : goal.invariant-loop-policy
invariant-loop-policy l = AllByRecursion (λ p. IsOid p.oid) (map tsa_policy_view (take l.policy-index l.policies))
