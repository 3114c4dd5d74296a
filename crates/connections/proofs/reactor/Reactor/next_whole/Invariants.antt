use Rattle.connections.specs.{Places.AreRounds, WaitingConnection.intake}
use Rattle.connections.proofs.reactor.Reactor.next_whole.Given as goal

abbrev pub invariant-loop-round : goal.invariant-loop-round
invariant-loop-round g l =
    AreRounds g.A.Acceptor.tells g.R.Timer.shows g.A.Stream.Read.remaining g.A.Stream.Connection.fails l.round l.most
    (intake l.initial.self.acceptor l.initial.self.places) (intake l.self.acceptor l.self.places)
