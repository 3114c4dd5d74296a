use Rattle.std.proofs.Common.{string_bytes}
use Rattle.der.proofs.OidTextLoops.{IsWrittenSoFar}
use Rattle.der.proofs.oid.Oid.text.Given as goal

abbrev pub invariant-loop-octet : goal.invariant-loop-octet
invariant-loop-octet l = IsWrittenSoFar l.octet-items (string_bytes l.text) l.octet-index l.subidentifier
