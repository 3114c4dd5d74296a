-- The clock is good under one of those that are left if it is under any, and they are of all.
use Rattle.std.proofs.Common.{map, length}
use Rattle.book.specs.Values.{calibration_view}
use Rattle.judgement.specs.View.{evidence_view}
use Rattle.judgement.proofs.Clocks.{AreLeft}
use Rattle.judgement.proofs.readings.good_clock_in.Given as goal

abbrev pub invariant-loop-calibration : goal.invariant-loop-calibration
invariant-loop-calibration l =
    AreLeft (evidence_view l.evidence) l.before.last_gen_time l.gen_time (map calibration_view l.fn.calibrations)
    (map calibration_view l.left)

abbrev pub decreases-loop-calibration : goal.decreases-loop-calibration
decreases-loop-calibration l = length l.left
