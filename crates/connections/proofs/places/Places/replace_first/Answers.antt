use Rattle.std.proofs.Common.{◌<◌, length, arith, map, subst, sym}
use Rattle.std.proofs.lemmas.List.{length-map}
use Rattle.connections.specs.{Places.GivesWay, WaitingConnection.place_of, WaitingConnection.places_of}
use Rattle.connections.proofs.PlacesLemmas.{gives_way}
use Rattle.connections.proofs.places.Places.replace_first.Goals as goal

pub returns : goal.returns
returns g c =
    let items = c.args.self.now.waiting.items in
    let within : 0 < length items = omega (arith, c.requires, length-map items place_of) in
    subst (λ all. GivesWay (place_of c.args.one) (places_of c.args.self.now) (map place_of all))
    (sym c.rotate_left.ensures.items) (gives_way place_of items c.args.one within)
