use Rattle.store.proofs.{Words.◌∙◌, Calls.kept_seen, Calls.looks_now, Tallies.asked_day, Tallies.count_view}
use Rattle.store.proofs.store.StoreBook.count_of_day.Goals as goal

pub returns-in_err-count-clause-looks : goal.returns-in_err-count-clause-looks
returns-in_err-count-clause-looks g c = looks_now g.S.Store _ _ _ c.self.view_is c.in_err-count.ensures.reads

pub returns-clause-looks : goal.returns-clause-looks
returns-clause-looks g c = looks_now g.S.Store _ _ _ c.self.view_is c.in_ok-count.ensures.reads

pub returns-clause-value : goal.returns-clause-value
returns-clause-value g c honest b s =
    c.unwrap_or.ensures ∙ count_view b _ _ _
    (c.in_ok-count.ensures.value honest _ (kept_seen g.S.Store _ _ b c.self.view_is s))
    ∙ asked_day b c.args.account.now c.args.day _ s.sound c.at_most.ensures
