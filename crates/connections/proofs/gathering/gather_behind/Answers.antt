use Rattle.std.proofs.Common.{◌∙◌, ◌-◌, ◌<◌, [], ◌∷◌, length, map, ap, arith, inl, inr, refl, vec_capacity, vec_len}
use Rattle.std.proofs.lemmas.List.{length-map, map-append}
use Rattle.connections.specs.auxiliary.Gathering.{handed_view}
use Rattle.connections.proofs.GatheringLemmas.{none_behind, one_behind, gathered_all, gathered_last, as_many}
use Rattle.connections.proofs.{GatheringLemmas.cut_behind, HeardLemmas.on_err}
use Rattle.connections.proofs.gathering.gather_behind.Goals as goal

pub gathering-init : goal.gathering-init
gathering-init g c = record { room = refl; behind = none_behind }

pub returns-in_default-clause-gathered : goal.returns-in_default-clause-gathered
returns-in_default-clause-gathered g c = gathered_all c.gathering.invariant.behind (inr c.in_default.ensures)

pub returns-in_default-clause-few : goal.returns-in_default-clause-few
returns-in_default-clause-few g c =
    omega (arith, c.gathering.invariant.room, c.gathering-test.true, c.gathering.stamps.ok.0)

pub returns-in_err-one-clause-cut : goal.returns-in_err-one-clause-cut
returns-in_err-one-clause-cut g c =
    let these = c.gathering.invariant.behind in
    let st = c.gathering.stamps in
    let old = c.args.stamps.now in
    let fits : length these.more < vec_capacity old - vec_len old =
    omega (
      arith,
      as_many these,
      c.gathering.invariant.room,
      c.gathering-test.true,
      st.ok.0,
      old.ok.0,
      length-map st.items handed_view,
      length-map old.items handed_view,
    ) in
    on_err c.from_residual.result _ (cut_behind these fits _ _ c.in-Some.ensures _ c.in_err-one.ensures.given)

pub returns-then-not-asks_stamp-clause-gathered : goal.returns-then-not-asks_stamp-clause-gathered
returns-then-not-asks_stamp-clause-gathered g c =
    let one = handed_view c.in_ok-one.one in
    gathered_last c.gathering.invariant.behind one
    (rw (← c.in_ok-one.ensures.request, ← c.in_ok-one.ensures.stream) at c.in-Some.ensures) c.in_ok-one.ensures.given

pub returns-then-not-asks_stamp-clause-few : goal.returns-then-not-asks_stamp-clause-few
returns-then-not-asks_stamp-clause-few g c =
    omega (arith, c.gathering.invariant.room, c.gathering-test.true, c.gathering.stamps.ok.0)

pub gathering-preserved : goal.gathering-preserved
gathering-preserved g c =
    let one = handed_view c.in_ok-one.one in
    record {
      room = c.push_reserved.ensures.capacity ∙ c.gathering.invariant.room;
      behind = one_behind c.gathering.invariant.behind one
          (ap (map handed_view) c.push_reserved.ensures.items
          ∙ map-append handed_view c.gathering.stamps.items (c.in_ok-one.one ∷ []))
          (rw (← c.in_ok-one.ensures.request, ← c.in_ok-one.ensures.stream) at c.in-Some.ensures)
          c.in_ok-one.ensures.given;
    }

pub returns-clause-gathered : goal.returns-clause-gathered
returns-clause-gathered g c = gathered_all c.gathering.invariant.behind (inl refl)

pub returns-clause-few : goal.returns-clause-few
returns-clause-few g c =
    omega (arith, c.gathering.invariant.room, c.gathering.stamps.ok.0, c.gathering.stamps.ok.1)
