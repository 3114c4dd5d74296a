use Rattle.store.proofs.Words.{[], ap, length-map, map, map-append, option_map, slice_get, subst, sym, ◌∙◌, ◌∷◌, ◌≡◌}
use Rattle.store.proofs.Gathered.{HasGathered, all_gathered, nothing_gathered, one_gathered}
use Rattle.store.proofs.Walk.{looks_after}
use Rattle.store.proofs.store.Store.all.Goals as goal

pub loop-found-init : goal.loop-found-init
loop-found-init g c =
    subst (λ items. HasGathered g.S.Store g.T.Numbered.all c.args.self.now c.args.self.now (map g.T.Numbered.value items))
    (sym c.new-found.ensures.items) (nothing_gathered g.S.Store g.T.Numbered.all c.args.self.now)

pub loop-found-preserved : goal.loop-found-preserved
loop-found-preserved g c =
    let before = c.loop-found.found.items in
    let one = c.in-Some.one in
    subst (λ rows. HasGathered g.S.Store g.T.Numbered.all c.args.self.now c.after.new.self rows)
    (sym (ap (map g.T.Numbered.value) c.in_ok-push.ensures.items ∙ map-append g.T.Numbered.value before (one ∷ [])))
    (one_gathered g.S.Store g.T.Numbered.all c.args.self.now c.loop-found.self c.after.new.self
    (map g.T.Numbered.value before) (g.T.Numbered.value one) c.len.result
    (c.len.ensures ∙ c.loop-found.found.ok.0 ∙ sym (length-map before g.T.Numbered.value))
    c.loop-found.invariant c.in_ok-one.ensures.looks c.in_ok-one.ensures.faults
    c.in_ok-one.ensures.opened
    (λ h b s. subst (λ found. option_map g.T.Numbered.value found ≡ slice_get (g.T.Numbered.all b) c.len.result) c.in-Some.is
    (c.in_ok-one.ensures.value h b s)))

pub returns-clause-value : goal.returns-clause-value
returns-clause-value g c honest b s =
    let before = c.loop-found.found.items in
    all_gathered g.S.Store g.T.Numbered.all c.args.self.now c.loop-found.self c.after.new.self
    (map g.T.Numbered.value before) c.len.result (c.len.ensures ∙ c.loop-found.found.ok.0 ∙ sym (length-map before g.T.Numbered.value))
    c.loop-found.invariant c.in_ok-one.ensures.looks
    (λ h b s. subst (λ found. option_map g.T.Numbered.value found ≡ slice_get (g.T.Numbered.all b) c.len.result) c.in_default.is
    (c.in_ok-one.ensures.value h b s)) honest b s

pub returns-in_err-one-clause-looks : goal.returns-in_err-one-clause-looks
returns-in_err-one-clause-looks g c =
    looks_after g.S.Store _ _ _ c.loop-found.invariant.looks c.in_err-one.ensures.looks

pub returns-in_err-push-clause-looks : goal.returns-in_err-push-clause-looks
returns-in_err-push-clause-looks g c =
    looks_after g.S.Store _ _ _ c.loop-found.invariant.looks c.in_ok-one.ensures.looks

pub returns-clause-looks : goal.returns-clause-looks
returns-clause-looks g c =
    looks_after g.S.Store _ _ _ c.loop-found.invariant.looks c.in_ok-one.ensures.looks
