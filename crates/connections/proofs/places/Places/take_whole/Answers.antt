use Rattle.connections.specs.Places.{IsWhole}
use Rattle.connections.proofs.PlacesLemmas.{takes_one}
use Rattle.connections.proofs.places.Places.take_whole.Goals as goal

pub returns : goal.returns
returns g c =
    takes_one _ _ (λ one. IsWhole one.received) _ _ _ c.first_whole.ensures.read _ _ c.remove.ensures
    c.in_ok-place.ensures.whole
