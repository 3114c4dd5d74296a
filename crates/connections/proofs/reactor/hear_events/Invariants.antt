use Rattle.std.proofs.Common.{◌≡◌}
use Rattle.connections.specs.WaitingConnection.{places_of}
use Rattle.connections.proofs.reactor.hear_events.Given as goal

abbrev pub invariant-loop-event : goal.invariant-loop-event
invariant-loop-event g l = places_of l.places ≡ places_of l.fn.places
