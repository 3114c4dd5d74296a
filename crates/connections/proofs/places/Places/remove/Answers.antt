use Rattle.std.proofs.{Common.◌<◌, Common.length, Common.arith, lemmas.List.length-map}
use Rattle.connections.specs.WaitingConnection.{place_of}
use Rattle.connections.proofs.PlacesLemmas.{taken_out}
use Rattle.connections.proofs.places.Places.remove.Goals as goal

pub remove-requires : goal.remove-requires
remove-requires g c =
    let waiting = c.args.self.now.waiting in
    omega (arith, c.requires, length-map waiting.items place_of, waiting.ok.0)

pub returns : goal.returns
returns g c =
    let items = c.args.self.now.waiting.items in
    let within : c.args.place < length items = omega (arith, c.requires, length-map items place_of) in
    taken_out place_of items c.remove.new.self.items c.args.place c.remove.result within c.remove.ensures.value
    c.remove.ensures.by_index.2
