use Rattle.std.proofs.Common.{◌≡◌, ◌∙◌, [], ◌∷◌, ◌++◌, length, map, ap, arith, sym}
use Rattle.std.proofs.lemmas.List.{append-nil, append_assoc}
use Rattle.std.specs.Vec.Iter.{into_iter_items}
use Rattle.connections.specs.auxiliary.Gathering.{handed_view}
use Rattle.connections.proofs.GroupLemmas.{none_answered, all_answered, none_left}
use Rattle.connections.proofs.group.answer_in_turn.Goals as goal

pub loop-one-init : goal.loop-one-init
loop-one-init g c =
    let is : into_iter_items c.into_iter-one-iterator.result ≡ c.args.ones.items =
    c.into_iter-one-iterator.ensures.into_iter_gives.0 in
    ([], (ap (map handed_view) (sym is), none_answered _ _ _ _ _ _))

pub loop-one-preserved : goal.loop-one-preserved
loop-one-preserved g c =
    let inv = c.loop-one.invariant in
    let one = handed_view c.in-Some.one in (
      inv.0 ++ (one ∷ []),
      (
        inv.1.0
            ∙ (ap (λ xs. inv.0 ++ map handed_view xs) c.in-Some.ensures.steps.0
            ∙ sym (append_assoc inv.0 (one ∷ []) (map handed_view (into_iter_items c.next.new.self)))),
        all_answered _ _ _ _ _ inv.0 (one ∷ []) _ _ _ inv.1.1 c.answer_one.ensures,
      ),
    )

pub returns : goal.returns
returns g c =
    let inv = c.loop-one.invariant in
    let rest = into_iter_items c.loop-one.one-iterator in
    let none : length rest ≡ 0 = omega (arith, c.loop-one.one-iterator.rest.ok.0, c.in-None.ensures.steps.0) in
    let all : inv.0 ≡ map handed_view c.args.ones.items =
    sym (inv.1.0 ∙ (ap (λ xs. inv.0 ++ map handed_view xs) (none_left rest none) ∙ append-nil inv.0)) in
    rw all at inv.1.1
