use Rattle.std.proofs.Common.{◌≡◌, ◌≤◌, List, length}
use Rattle.std.specs.List.{AllByRecursion}
use Rattle.connections.specs.{Acceptor.AreTold, Acceptor.IsWait, WaitingConnection.places_of}
use Rattle.connections.specs.{declared.acceptor.Accepted.Accepted}
use Rattle.connections.proofs.reactor.Reactor.finish.Given as goal

abbrev pub invariant-loop-round : goal.invariant-loop-round
invariant-loop-round g l =
    (places_of l.self.places ≡ places_of l.initial.self.places)
    × ((waited : List (Accepted g.row.A-Stream.Denot)) × AllByRecursion IsWait waited × (l.round ≤ length waited)
    × AreTold g.A.Acceptor.tells l.initial.self.acceptor waited l.self.acceptor)
