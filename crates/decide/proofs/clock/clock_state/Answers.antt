use Rattle.std.proofs.Common.{◌≡◌, subst}
use Rattle.policy.specs.View.{counter_view}
use Rattle.decide.{specs.Clock.KeepsAccuracy, proofs.Clocks.keeps_accuracy}
use Rattle.decide.proofs.clock.clock_state.Goals as goal

pub returns-in-Some-clause-interval : goal.returns-in-Some-clause-interval
returns-in-Some-clause-interval c = λ moment e.
    let same : c.in-Some.moment ≡ moment = cc in
    subst (KeepsAccuracy (counter_view c.args.counter.now) c.args.facts.now) same
    (keeps_accuracy (counter_view c.args.counter.now) c.args.facts.now c.in-Some.moment c.in-Some.ensures)
