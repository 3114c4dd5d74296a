use Rattle.std.proofs.Common.{map, option_map, sym, ap}
use Rattle.book.specs.Values.{calibration_view}
use Rattle.judgement.specs.View.{evidence_view}
use Rattle.judgement.proofs.Clocks.{finds, none_left, none_of, skips}
use Rattle.judgement.proofs.readings.good_clock_in.Goals as goal

pub returns-then-is_some : goal.returns-then-is_some
returns-then-is_some c =
    finds (evidence_view c.args.evidence.now) c.args.before.now.last_gen_time c.args.gen_time
    (map calibration_view c.args.calibrations.now) (map calibration_view c.loop-calibration.left.now)
    (map calibration_view c.in-Some.later.now) (calibration_view c.in-Some.calibration.now)
    (option_map (λ x. calibration_view x.now) c.next_of.result) c.good_clock_under-found.result
    (ap (map calibration_view) c.in-Some.ensures.cases.0) c.next_of.ensures (sym c.if-is_some.ensures)
    c.good_clock_under-found.ensures c.loop-calibration.invariant

pub loop-calibration-preserved : goal.loop-calibration-preserved
loop-calibration-preserved c =
    skips (evidence_view c.args.evidence.now) c.args.before.now.last_gen_time c.args.gen_time
    (map calibration_view c.args.calibrations.now) (map calibration_view c.loop-calibration.left.now)
    (map calibration_view c.in-Some.later.now) (calibration_view c.in-Some.calibration.now)
    (option_map (λ x. calibration_view x.now) c.next_of.result) c.good_clock_under-found.result
    (ap (map calibration_view) c.in-Some.ensures.cases.0) c.next_of.ensures (sym c.if-is_some.ensures)
    c.good_clock_under-found.ensures c.loop-calibration.invariant

pub returns : goal.returns
returns c =
    none_left (evidence_view c.args.evidence.now) c.args.before.now.last_gen_time c.args.gen_time
    (map calibration_view c.args.calibrations.now) (map calibration_view c.loop-calibration.left.now)
    (none_of calibration_view c.loop-calibration.left.now c.in_default.ensures.cases) c.loop-calibration.invariant
