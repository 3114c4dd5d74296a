use Rattle.std.proofs.Common.{◌≡◌, map}
use Rattle.connections.specs.WaitingConnection.{place_of, places_of}
use Rattle.connections.proofs.places.Places.hear.Given as goal

abbrev pub invariant-loop-one : goal.invariant-loop-one
invariant-loop-one g l = map place_of l.one-items ≡ places_of l.fn.self
