use Rattle.store.proofs.{Words.refl, Calls.kept_seen, Calls.looks_now}
use Rattle.store.proofs.store.Store.after.Goals as goal

pub returns-in_err-found-clause-looks : goal.returns-in_err-found-clause-looks
returns-in_err-found-clause-looks g c = looks_now g.S.Store _ _ _ c.self.view_is c.in_err-found.ensures.reads

pub returns-clause-looks : goal.returns-clause-looks
returns-clause-looks g c = looks_now g.S.Store _ _ _ c.self.view_is c.in_ok-found.ensures.reads

pub returns-clause-value : goal.returns-clause-value
returns-clause-value g c honest b s =
    c.in_ok-found.ensures.value honest _ (kept_seen g.S.Store _ _ b c.self.view_is s) b s.sound refl
