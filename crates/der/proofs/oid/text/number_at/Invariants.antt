use Rattle.der.proofs.OidNumbers.{IsNumberSoFar}
use Rattle.der.proofs.oid.text.number_at.Given as goal

abbrev pub invariant-loop-index : goal.invariant-loop-index
invariant-loop-index l = IsNumberSoFar l.text l.index l.number
