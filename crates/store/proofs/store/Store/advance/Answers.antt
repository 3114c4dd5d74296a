use Rattle.store.proofs.Words.{arith, get_or-map, length, length-map, map, sym, viewer_of, ◌<◌, ◌∙◌}
use Rattle.store.proofs.CursorMoves.{all_moved, any_default, moved_more, moved_own}
use Rattle.store.proofs.Walk.{looks_after}
use Rattle.store.proofs.store.Store.advance.Goals as goal

pub loop-i-init : goal.loop-i-init
loop-i-init g c =
    moved_own g.S.Store _ _ (viewer_of c.args.account.now (map (λ name. name.now) c.args.groups.now)) _ _ _ _
    c.in_ok-cursors.ensures.looks c.in_ok-cursors.ensures.faults c.in_ok-cursors.ensures.value

pub returns-in_err-cursors-2-clause-looks : goal.returns-in_err-cursors-2-clause-looks
returns-in_err-cursors-2-clause-looks g c =
    looks_after g.S.Store _ _ _ c.loop-i.invariant.looks c.in_err-cursors-2.ensures.looks

pub loop-i-preserved : goal.loop-i-preserved
loop-i-preserved g c =
    let same = length-map c.args.groups.now (λ name. name.now) in
    let inside : c.loop-i.i < length c.args.groups.now = c.loop-i-test.true in
    let sized = c.loop-i.invariant.sized in
    let within : c.loop-i.i < length c.loop-i.cursors.shared.items = omega (arith, inside, sized, c.requires) in
    moved_more g.S.Store _ _ _ (viewer_of c.args.account.now (map (λ name. name.now) c.args.groups.now)) _ _ _ _ _ _ _
    _ _
    c.loop-i.invariant (omega (arith, inside, same)) (c.requires ∙ sym same)
    (sym (get_or-map (λ name. name.now) c.args.groups.now c.loop-i.i _ _ inside))
    (c.index.ensures ∙ any_default c.loop-i.cursors.shared.items c.loop-i.i _ _ within)
    c.in_ok-cursors-2.ensures.looks c.in_ok-cursors-2.ensures.faults c.in_ok-cursors-2.ensures.value

pub returns-clause-value : goal.returns-clause-value
returns-clause-value g c honest b s known =
    let same = length-map c.args.groups.now (λ name. name.now) in
    let past = c.loop-i-test.false in
    all_moved g.S.Store _ _ (viewer_of c.args.account.now (map (λ name. name.now) c.args.groups.now)) _ _ _ _ _ _
    c.loop-i.invariant (omega (arith, past, same)) honest b s known
