use Rattle.der.proofs.OidLoop.{IsReadSoFar}
use Rattle.der.proofs.oid.is_oid_content.Given as goal

abbrev pub invariant-loop-octet : goal.invariant-loop-octet
invariant-loop-octet l = IsReadSoFar l.content l.octet-index l.subidentifier l.count
