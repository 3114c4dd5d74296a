use Rattle.std.proofs.Common.{rules}
use Rattle.connections.specs.WaitingConnection.{places_of}
use Rattle.connections.proofs.PlacesLemmas.{all_still, read_once_more}
use Rattle.connections.proofs.places.Places.first_done.Goals as goal

pub loop-place-init : goal.loop-place-init
loop-place-init g c = all_still _ _ (places_of c.args.self.now)

pub returns-in-Whole-clause-read : goal.returns-in-Whole-clause-read
returns-in-Whole-clause-read g c =
    read_once_more _ _ _ c.loop-place.self.waiting.items _ c.index_mut.result.now c.read.new.self (search rules)
    c.index_mut.ensures.value c.loop-place.invariant c.read.ensures

pub returns-in-Failed-clause-read : goal.returns-in-Failed-clause-read
returns-in-Failed-clause-read g c =
    read_once_more _ _ _ c.loop-place.self.waiting.items _ c.index_mut.result.now c.read.new.self (search rules)
    c.index_mut.ensures.value c.loop-place.invariant c.read.ensures

pub loop-place-preserved : goal.loop-place-preserved
loop-place-preserved g c =
    read_once_more _ _ _ c.loop-place.self.waiting.items _ c.index_mut.result.now c.read.new.self (search rules)
    c.index_mut.ensures.value c.loop-place.invariant c.read.ensures
