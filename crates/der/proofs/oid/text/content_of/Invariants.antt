use Rattle.der.{specs.ObjectIdentifier.subidentifier_octets, proofs.OidTextLoops.IsPushed}
use Rattle.der.proofs.oid.text.content_of.Given as goal

abbrev pub invariant-loop-rest : goal.invariant-loop-rest
invariant-loop-rest l = IsPushed l.pushed l.text (subidentifier_octets l.first) l.content.items l.rest l.left

abbrev pub decreases-loop-rest : goal.decreases-loop-rest
decreases-loop-rest l = l.left
