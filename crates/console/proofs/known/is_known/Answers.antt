use Rattle.console.proofs.Algorithms.{known_tells}
use Rattle.console.proofs.known.is_known.Goals as goal

pub returns : goal.returns
returns c =
    known_tells c.args.identifier.now c.of_identifier.result c.is_some.result c.is_some.ensures
    c.of_identifier.ensures.found c.of_identifier.ensures.none
