use Rattle.tsp.specs.View.{request_view}
use Rattle.console.proofs.Judgement.{all_hold}
use Rattle.console.proofs.rules.first_failing.Goals as goal

pub returns : goal.returns
returns c =
    all_hold (request_view c.args.request.now)
    (c.has_version_one.ensures.0 c.if-not-has_version_one.false)
    (c.has_known_algorithm.ensures.0 c.if-not-has_known_algorithm.false)
    (c.has_algorithm_length.ensures.0 c.if-not-has_algorithm_length.false)
