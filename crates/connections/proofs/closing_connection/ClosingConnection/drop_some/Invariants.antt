use Rattle.connections.specs.ClosingConnection.{IsCounted}
use Rattle.connections.proofs.closing_connection.ClosingConnection.drop_some.Given as goal

abbrev pub invariant-loop : goal.invariant-loop
invariant-loop g l =
    IsCounted (g.S.Read.remaining l.initial.self.peer.stream) (g.S.Read.remaining l.self.peer.stream)
    l.initial.self.dropped l.self.dropped
