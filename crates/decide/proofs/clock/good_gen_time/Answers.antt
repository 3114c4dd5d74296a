use Rattle.std.proofs.{Common.rules, Common.w64, Common.SFits, lemmas.Int.to_z-of_z}
use Rattle.policy.specs.View.{counter_view}
use Rattle.decide.proofs.Clocks.{good_at}
use Rattle.decide.proofs.clock.good_gen_time.Goals as goal

pub returns-then-follows : goal.returns-then-follows
returns-then-follows c =
    let fits : SFits w64 c.args.facts.now.reading = search rules in
    let since = simp to_z-of_z at c.in_ok-elapsed.ensures in
    let now = simp to_z-of_z at c.in_ok-now.ensures in
    good_at (counter_view c.args.counter.now) c.args.facts.now c.in_ok-calibration.calibration c.in_ok-elapsed.elapsed
    c.in_ok-now.now c.rounded_down-moment.result
    (search rules) since.0 since.1 (search rules)
    (c.is_accurate.ensures.0 c.if-not-is_accurate.false) now.0 now.1 c.if-facts.false
    c.rounded_down-moment.ensures (c.follows.ensures.0 c.if-follows.true)
