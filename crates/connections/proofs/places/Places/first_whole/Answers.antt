use Rattle.std.proofs.Common.{◌∙◌, ◌≤◌, ◌<◌, length, arith, rules, subst}
use Rattle.std.proofs.lemmas.List.{get_or-set_same, length-map}
use Rattle.connections.specs.{Places.IsUnfinished, WaitingConnection.place_of, WaitingConnection.places_of}
use Rattle.connections.proofs.PlacesLemmas.{all_still, none_before, one_more_before, read_once_more}
use Rattle.connections.proofs.places.Places.first_whole.Goals as goal

pub loop-place-init : goal.loop-place-init
loop-place-init g c = (all_still _ _ (places_of c.args.self.now), tt)

pub returns-then-is_whole-clause-read : goal.returns-then-is_whole-clause-read
returns-then-is_whole-clause-read g c =
    read_once_more _ _ _ c.loop-place.self.waiting.items _ c.index_mut.result.now c.read.new.self (search rules)
    c.index_mut.ensures.value c.loop-place.invariant.0 c.read.ensures

pub loop-place-preserved : goal.loop-place-preserved
loop-place-preserved g c =
    let items = c.loop-place.self.waiting.items in
    let within : c.loop-place.place < length items = search rules in
    let unfinished : IsUnfinished c.read.new.self.request =
    subst (λ w. IsUnfinished w.request)
    (c.index.ensures ∙ get_or-set_same items c.loop-place.place c.read.new.self _ within)
    (c.is_whole.ensures.unfinished c.if-is_whole.false) in (
      read_once_more _ _ _ items _ c.index_mut.result.now c.read.new.self within c.index_mut.ensures.value
          c.loop-place.invariant.0 c.read.ensures,
      one_more_before items c.loop-place.place c.read.new.self within unfinished c.loop-place.invariant.1,
    )

pub returns-clause-whole : goal.returns-clause-whole
returns-clause-whole g c =
    let items = c.loop-place.self.waiting.items in
    let end : length items ≤ c.loop-place.place = search rules in
    none_before c.loop-place.place (places_of c.loop-place.self)
    (omega (arith, end, length-map items place_of)) c.loop-place.invariant.1
