use Rattle.std.proofs.Common.{◌≡◌, ◌++◌, reverse}
use Rattle.der.proofs.NumberContents.{magnitude}
use Rattle.der.proofs.number.magnitude_octets.Given as goal

-- what is left, and then the octets so far from the last to the first
abbrev pub invariant-loop-rest : goal.invariant-loop-rest
invariant-loop-rest l = magnitude l.number ≡ magnitude l.rest ++ reverse l.octets.items

abbrev pub decreases-loop-rest : goal.decreases-loop-rest
decreases-loop-rest l = l.rest
