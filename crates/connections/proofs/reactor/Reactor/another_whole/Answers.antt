use Rattle.connections.proofs.PlacesLemmas.{given_behind}
use Rattle.connections.proofs.reactor.Reactor.another_whole.Goals as goal

pub returns-clause-given : goal.returns-clause-given
returns-clause-given g c =
    given_behind _ _ _ _ _ (rw (← c.hear_all.ensures.places) at c.in_default.ensures.read) c.take_whole-2.result
    c.take_whole-2.ensures
