use Rattle.std.proofs.Common.{◌≡◌, ◌-◌, false, length}
use Rattle.connections.specs.{Places.AreAdded, WaitingConnection.intake, WaitingConnection.places_of}
use Rattle.connections.proofs.reactor.Reactor.take.Given as goal

abbrev pub invariant-taking : goal.invariant-taking
invariant-taking g l =
    AreAdded g.A.Acceptor.tells g.R.Timer.shows l.most (intake l.initial.self.acceptor l.initial.self.places)
    (intake l.self.acceptor l.self.places)
    × (l.self.is_short ≡ false)

abbrev pub decreases-taking : goal.decreases-taking
decreases-taking g l = l.room - length (places_of l.self.places)
