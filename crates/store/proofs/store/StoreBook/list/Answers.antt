use Rattle.std.proofs.KnownBytes.{Keeps-refl, Keeps-trans}
use Rattle.store.proofs.Words.{IfSome, ap, length-map, listed_view, map, replicate, subst, sym, viewer_of, ◌<◌, ◌^◌}
use Rattle.store.proofs.Walk.{HasListed, ahead_at_first, at_first, looks_after, nothing_listed, row_listed}
use Rattle.store.proofs.{Words.◌∙◌, Calls.no_answer, LabelRows.none_owned, Walk.sized_at_first, Walk.whole_listed}
use Rattle.store.specs.auxiliary.Steps.{AreNextReadable, IsNextSeen}
use Rattle.store.proofs.store.StoreBook.list.Goals as goal

pub loop-known-init : goal.loop-known-init
loop-known-init g c =
    let viewer = viewer_of c.args.account.now (map (λ name. name.now) c.args.groups.now) in
    let cursors = c.in_ok-cursors.cursors in
    let shared = c.in_ok-cursors.ensures.shared
    ∙ ap (λ n. replicate n at_first) (sym (length-map c.args.groups.now (λ name. name.now))) in (
      subst (λ items. HasListed g.S.Store c.args.self.now c.look_up.new.self viewer (map listed_view items) 0 cursors
          c.look_up.new.known.items)
          (sym c.new-rows.ensures.items)
          (nothing_listed g.S.Store c.args.self.now c.look_up.new.self viewer cursors c.look_up.new.known.items
          c.in_ok-look_up.ensures.looks c.in_ok-look_up.ensures.faults c.in_ok-look_up.ensures.opened
          (sized_at_first viewer cursors shared) (ahead_at_first viewer cursors c.in_ok-cursors.ensures.own shared)
          (λ h b s. c.in_ok-look_up.ensures.value h b s (none_owned b _ c.new-known.ensures.items))),
      Keeps-refl (g.W.Write.contents c.args.output.now),
    )

pub loop-known-preserved : goal.loop-known-preserved
loop-known-preserved g c =
    let viewer = viewer_of c.args.account.now (map (λ name. name.now) c.args.groups.now) in
    let last = c.loop-known.last in
    let after = c.next_seen.new.cursors in
    let is = c.in-Some.is in (
      subst (λ rows. HasListed g.S.Store c.args.self.now c.listing.new.self viewer rows c.in-Some.number after
          c.listing.new.known.items)
          (sym c.in_ok-add_listed.ensures.added)
          (row_listed g.S.Store c.args.self.now c.loop-known.self c.next_seen.new.self c.listing.new.self viewer _ last
          c.in-Some.number c.loop-known.cursors after c.loop-known.known.items c.next_seen.new.known.items
          c.listing.new.known.items c.in_ok-row.row c.loop-known.invariant.0
          c.in_ok-number.ensures.looks c.in_ok-row.ensures.looks c.in_ok-number.ensures.faults c.in_ok-row.ensures.faults
          (subst (λ next. IfSome next (λ number. (last < number) × (number < 2 ^ 63))) is c.in_ok-number.ensures.rises).0
          c.in_ok-number.ensures.sized
          (λ h b s ahead owned. subst (λ next. IsNextSeen viewer last b next
          × AreNextReadable viewer last b after.own after.shared.items) is
          (c.in_ok-number.ensures.value h b s ahead owned))
          c.in_ok-number.ensures.known c.in_ok-row.ensures.value c.in_ok-row.ensures.known),
      Keeps-trans _ _ _ c.loop-known.invariant.1 c.flush.ensures.bytes,
    )

pub returns-clause-value : goal.returns-clause-value
returns-clause-value g c =
    let viewer = viewer_of c.args.account.now (map (λ name. name.now) c.args.groups.now) in
    whole_listed g.S.Store c.args.self.now c.loop-known.self c.next_seen.new.self viewer _ _ _ _
    c.loop-known.invariant.0 c.in_ok-number.ensures.looks
    (λ h b s ahead owned. subst (λ next. IsNextSeen viewer c.loop-known.last b next) c.in_default.is
    (c.in_ok-number.ensures.value h b s ahead owned).0)

pub returns-in_err-look_up-clause-value : goal.returns-in_err-look_up-clause-value
returns-in_err-look_up-clause-value g c honest b s = no_answer _ _ c.from_residual-in_err-look_up.ensures.0

pub returns-in_err-number-clause-looks : goal.returns-in_err-number-clause-looks
returns-in_err-number-clause-looks g c =
    looks_after g.S.Store _ _ _ c.loop-known.invariant.0.looks c.in_err-number.ensures.looks

pub returns-then-is_err-clause-looks : goal.returns-then-is_err-clause-looks
returns-then-is_err-clause-looks g c =
    looks_after g.S.Store _ _ _ c.loop-known.invariant.0.looks c.in_ok-number.ensures.looks

pub returns-in_err-row-clause-looks : goal.returns-in_err-row-clause-looks
returns-in_err-row-clause-looks g c =
    looks_after g.S.Store _ _ _
    (looks_after g.S.Store _ _ _ c.loop-known.invariant.0.looks c.in_ok-number.ensures.looks)
    c.in_err-row.ensures.looks

pub returns-in_err-add_listed-clause-looks : goal.returns-in_err-add_listed-clause-looks
returns-in_err-add_listed-clause-looks g c =
    looks_after g.S.Store _ _ _
    (looks_after g.S.Store _ _ _ c.loop-known.invariant.0.looks c.in_ok-number.ensures.looks)
    c.in_ok-row.ensures.looks

pub returns-clause-looks : goal.returns-clause-looks
returns-clause-looks g c =
    looks_after g.S.Store _ _ _ c.loop-known.invariant.0.looks c.in_ok-number.ensures.looks

pub returns-in_err-number-clause-value : goal.returns-in_err-number-clause-value
returns-in_err-number-clause-value g c honest b s = no_answer _ _ c.from_residual-in_err-number.ensures.0

pub returns-in_err-row-clause-value : goal.returns-in_err-row-clause-value
returns-in_err-row-clause-value g c honest b s = no_answer _ _ c.from_residual-in_err-row.ensures.0

pub returns-in_err-add_listed-clause-value : goal.returns-in_err-add_listed-clause-value
returns-in_err-add_listed-clause-value g c honest b s = no_answer _ _ c.from_residual-in_err-add_listed.ensures.0

pub returns-in_err-cursors-clause-value : goal.returns-in_err-cursors-clause-value
returns-in_err-cursors-clause-value g c honest b s = no_answer _ _ c.from_residual.ensures.0
