use Rattle.std.proofs.Common.{◌≡◌, ◌≤◌, length, take}
use Rattle.gentime.specs.GenTime.{without_trailing_zeros}
use Rattle.gentime.proofs.components.without_trailing_zeros.Given as goal

abbrev pub invariant-loop-end : goal.invariant-loop-end
invariant-loop-end l =
    (l.end ≤ length l.digits) × (without_trailing_zeros (take l.end l.digits) ≡ without_trailing_zeros l.digits)

abbrev pub decreases-loop-end : goal.decreases-loop-end
decreases-loop-end l = l.end
