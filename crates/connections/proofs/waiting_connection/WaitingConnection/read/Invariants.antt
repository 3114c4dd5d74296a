use Rattle.connections.specs.{Places.IsReadOn, WaitingConnection.place_of}
use Rattle.connections.proofs.waiting_connection.WaitingConnection.read.Given as goal

abbrev pub invariant-loop : goal.invariant-loop
invariant-loop g l =
    IsReadOn g.S.Read.remaining g.S.Connection.fails (place_of l.initial.self) (place_of l.self)
