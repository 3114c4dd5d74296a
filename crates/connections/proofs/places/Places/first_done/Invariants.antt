use Rattle.connections.specs.{Places.AreReadOn, WaitingConnection.places_of}
use Rattle.connections.proofs.places.Places.first_done.Given as goal

abbrev pub invariant-loop-place : goal.invariant-loop-place
invariant-loop-place g l = AreReadOn g.S.Read.remaining g.S.Connection.fails (places_of l.initial.self) (places_of l.self)
