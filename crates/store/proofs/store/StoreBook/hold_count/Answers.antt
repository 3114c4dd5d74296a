use Rattle.store.proofs.{Words.◌∙◌, Calls.kept_seen, Calls.looks_now, Numbered.hold_count}
use Rattle.store.proofs.store.StoreBook.hold_count.Goals as goal

pub returns-in_err-greatest-clause-looks : goal.returns-in_err-greatest-clause-looks
returns-in_err-greatest-clause-looks g c = looks_now g.S.Store _ _ _ c.self.view_is c.in_err-greatest.ensures.looks.reads

pub returns-clause-looks : goal.returns-clause-looks
returns-clause-looks g c = looks_now g.S.Store _ _ _ c.self.view_is c.in_ok-greatest.ensures.looks.reads

pub returns-clause-value : goal.returns-clause-value
returns-clause-value g c honest b s =
    c.unwrap_or.ensures
    ∙ hold_count b _ (c.in_ok-greatest.ensures.looks.value honest _ (kept_seen g.S.Store _ _ b c.self.view_is s))
