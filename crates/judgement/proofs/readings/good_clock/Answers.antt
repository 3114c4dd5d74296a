use Rattle.book.specs.Values.{calibration_view}
use Rattle.judgement.specs.{auxiliary.Search.IsGoodUnder, View.evidence_view}
use Rattle.judgement.proofs.Clocks.{some_of_suffix}
use Rattle.judgement.proofs.readings.good_clock.Goals as goal

pub returns-in-Some : goal.returns-in-Some
returns-in-Some c =
    some_of_suffix (IsGoodUnder (evidence_view c.args.evidence.now) c.args.before.now.last_gen_time c.args.gen_time
    c.in-Some.clock) calibration_view c.near.result c.args.evidence.now.calibrations.now _ c.split_at.ensures.back
    c.in-Some.ensures
