use Rattle.store.proofs.Words.{ap, is_held, to_z-of_z, ◌∙◌}
use Rattle.store.proofs.{Calls.kept_seen, Calls.looks_now, Numbered.held_view}
use Rattle.store.proofs.store.StoreBook.held_at.Goals as goal

pub returns-in_err-held-clause-looks : goal.returns-in_err-held-clause-looks
returns-in_err-held-clause-looks g c = looks_now g.S.Store _ _ _ c.self.view_is c.in_err-held.ensures.reads

pub returns-clause-looks : goal.returns-clause-looks
returns-clause-looks g c = looks_now g.S.Store _ _ _ c.self.view_is c.in_ok-held.ensures.reads

pub returns-clause-value : goal.returns-clause-value
returns-clause-value g c honest b s =
    c.in_ok-held.ensures.value honest _ (kept_seen g.S.Store _ _ b c.self.view_is s) ∙ held_view b _
    ∙ ap (λ now. is_held now b) (to_z-of_z c.ranges.now)
