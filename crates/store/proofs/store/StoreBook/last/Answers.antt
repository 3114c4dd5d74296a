use Rattle.store.proofs.{Words.◌∙◌, Calls.kept_seen, Calls.looks_now, FallingSerials.last_view}
use Rattle.store.proofs.store.StoreBook.last.Goals as goal

pub returns-in_err-stamp-clause-looks : goal.returns-in_err-stamp-clause-looks
returns-in_err-stamp-clause-looks g c = looks_now g.S.Store _ _ _ c.self.view_is c.in_err-stamp.ensures.reads

pub returns-clause-looks : goal.returns-clause-looks
returns-clause-looks g c = looks_now g.S.Store _ _ _ c.self.view_is c.in_ok-stamp.ensures.reads

pub returns-clause-value : goal.returns-clause-value
returns-clause-value g c honest b s =
    c.last_from.ensures ∙ last_view b _ s.sound
    (c.in_ok-stamp.ensures.value honest _ (kept_seen g.S.Store _ _ b c.self.view_is s))
