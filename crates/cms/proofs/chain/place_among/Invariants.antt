use Rattle.std.proofs.Common.{◌-◌, length}
use Rattle.cms.proofs.Ascending.{IsPlaceSoFar}
use Rattle.cms.proofs.chain.place_among.Given as goal

-- those so far come before
abbrev pub invariant-loop-place : goal.invariant-loop-place
invariant-loop-place l = IsPlaceSoFar l.sorted l.octets l.place

abbrev pub decreases-loop-place : goal.decreases-loop-place
decreases-loop-place l = length l.sorted - l.place
