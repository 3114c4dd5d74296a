use Rattle.std.proofs.Common.{◌≤◌, rules}
use Rattle.connections.specs.Places.{most_rounds}
use Rattle.connections.proofs.PlacesLemmas.{comes_later, fails_unheard, rounds_none, rounds_then}
use Rattle.connections.proofs.reactor.Reactor.next_whole.Goals as goal

pub loop-round-init : goal.loop-round-init
loop-round-init g c = rounds_none _ _ _ _ _ _

pub loop-round-preserved : goal.loop-round-preserved
loop-round-preserved g c = rounds_then _ _ _ _ _ _ _ _ _ c.loop-round.invariant c.in_default.ensures

pub returns-in-Some : goal.returns-in-Some
returns-in-Some g c = comes_later _ _ _ _ _ _ _ _ c.loop-round.invariant.0 c.in-Some.done c.in-Some.ensures

pub returns : goal.returns
returns g c =
    let all : most_rounds ≤ c.loop-round.round = search rules in
    fails_unheard _ _ _ _ _ _ _ _ c.loop-round.invariant all
