use Rattle.std.proofs.Common.{◌∙◌, refl}
use Rattle.connections.proofs.PlacesLemmas.{heard_same}
use Rattle.connections.proofs.places.Places.hear.Goals as goal

pub loop-one-preserved : goal.loop-one-preserved
loop-one-preserved g c =
    heard_same c.loop-one.one-items c.loop-one.one-index _ c.one-item.result refl c.hear.ensures refl refl
    ∙ c.loop-one.invariant
