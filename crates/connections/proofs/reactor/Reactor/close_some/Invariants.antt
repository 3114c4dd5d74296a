use Rattle.std.proofs.Common.{◌≡◌}
use Rattle.connections.specs.WaitingConnection.{places_of}
use Rattle.connections.proofs.reactor.Reactor.close_some.Given as goal

abbrev pub invariant-loop : goal.invariant-loop
invariant-loop g l =
    (l.self.acceptor ≡ l.initial.self.acceptor) × (places_of l.self.places ≡ places_of l.initial.self.places)
