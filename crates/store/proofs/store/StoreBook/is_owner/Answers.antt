use Rattle.store.proofs.Calls.{kept_seen, looks_now, no_answer}
use Rattle.store.proofs.{Words.unowned_beyond, Words.◌∙◌, DepositRows.own_view}
use Rattle.store.proofs.store.StoreBook.is_owner.Goals as goal

pub returns-then-number-gt-GREATEST_NUMBER-clause-value : goal.returns-then-number-gt-GREATEST_NUMBER-clause-value
returns-then-number-gt-GREATEST_NUMBER-clause-value g c honest b s =
    unowned_beyond _ b _ s.sound c.if-number-gt-GREATEST_NUMBER.true

pub returns-in_err-owns-clause-looks : goal.returns-in_err-owns-clause-looks
returns-in_err-owns-clause-looks g c = looks_now g.S.Store _ _ _ c.self.view_is c.in_err-owns.ensures.reads

pub returns-in_err-owns-clause-value : goal.returns-in_err-owns-clause-value
returns-in_err-owns-clause-value g c honest b s = no_answer _ _ c.from_residual.ensures.0

pub returns-clause-looks : goal.returns-clause-looks
returns-clause-looks g c = looks_now g.S.Store _ _ _ c.self.view_is c.in_ok-owns.ensures.reads

pub returns-clause-value : goal.returns-clause-value
returns-clause-value g c honest b s =
    c.in_ok-owns.ensures.value honest _ (kept_seen g.S.Store _ _ b c.self.view_is s) ∙ own_view b _ _ s.sound
