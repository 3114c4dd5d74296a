use Rattle.std.specs.Time.{instant_nanos}
use Rattle.connections.specs.{Places.IsLost, Places.IsWhole, WaitingConnection.place_of}
use Rattle.connections.proofs.PlacesLemmas.{takes_one}
use Rattle.connections.proofs.places.Places.take_done.Goals as goal

pub returns-then-is_whole : goal.returns-then-is_whole
returns-then-is_whole g c =
    takes_one _ _ (λ one. IsWhole one.received) _ _ _ c.first_done.ensures.read _ _ c.remove-one.ensures
    (rw c.if-is_whole.true at c.in_ok-place.ensures.done)

pub returns-else-is_whole : goal.returns-else-is_whole
returns-else-is_whole g c = (
  place_of c.remove-one.result,
  takes_one _ _ (IsLost (instant_nanos c.args.now)) _ _ _ c.first_done.ensures.read _ _ c.remove-one.ensures
      (rw c.if-is_whole.false at c.in_ok-place.ensures.done),
)
