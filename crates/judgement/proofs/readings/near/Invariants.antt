use Rattle.std.proofs.Common.{◌≤◌, ◌-◌, length}
use Rattle.judgement.proofs.readings.near.Given as goal

abbrev pub invariant-loop-start : goal.invariant-loop-start
invariant-loop-start l = (l.start ≤ l.end) × (l.end ≤ length l.calibrations)

abbrev pub decreases-loop-start : goal.decreases-loop-start
decreases-loop-start l = l.end - l.start
