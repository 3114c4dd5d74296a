use Rattle.store.proofs.DepositAnswers.{with_both, without_deposit, without_stamp}
use Rattle.store.proofs.{Words.stamped_beyond, Calls.kept_seen, Calls.looks_now, Calls.looks_twice, Calls.no_answer}
use Rattle.store.proofs.store.StoreBook.deposit.Goals as goal

pub returns-then-number-gt-GREATEST_NUMBER-clause-value : goal.returns-then-number-gt-GREATEST_NUMBER-clause-value
returns-then-number-gt-GREATEST_NUMBER-clause-value g c honest b s =
    stamped_beyond b _ s.sound c.if-number-gt-GREATEST_NUMBER.true

pub returns-in_err-deposit-clause-looks : goal.returns-in_err-deposit-clause-looks
returns-in_err-deposit-clause-looks g c = looks_now g.S.Store _ _ _ c.self.view_is c.in_err-deposit.ensures.reads

pub returns-in_default-clause-value : goal.returns-in_default-clause-value
returns-in_default-clause-value g c honest b s =
    let kept = kept_seen g.S.Store _ _ b c.self.view_is s in
    without_deposit b _ _ s.sound c.in_default.is
    (c.in_ok-deposit.ensures.value honest _ kept)

pub returns-in_default-2-clause-value : goal.returns-in_default-2-clause-value
returns-in_default-2-clause-value g c honest b s =
    let kept = c.in_ok-deposit.ensures.reads.kept _ (kept_seen g.S.Store _ _ b c.self.view_is s) in
    without_stamp b _ _ s.sound c.in_default-2.is
    (c.in_ok-stamp.ensures.value honest _ kept)

pub returns-clause-value : goal.returns-clause-value
returns-clause-value g c honest b s =
    let kept = kept_seen g.S.Store _ _ b c.self.view_is s in
    let found = c.in_ok-deposit.ensures.value (c.in_ok-stamp.ensures.reads.honest honest) _ kept in
    let stamped = c.in_ok-stamp.ensures.value honest _ (c.in_ok-deposit.ensures.reads.kept _ kept) in
    with_both b _ _ _ _ _ s.sound c.in-Some.is c.in-Some-2.is found stamped

pub returns-in_default-clause-looks : goal.returns-in_default-clause-looks
returns-in_default-clause-looks g c = looks_now g.S.Store _ _ _ c.self.view_is c.in_ok-deposit.ensures.reads

pub returns-in_err-stamp-clause-looks : goal.returns-in_err-stamp-clause-looks
returns-in_err-stamp-clause-looks g c =
    looks_twice g.S.Store _ _ _ _ c.self.view_is c.in_ok-deposit.ensures.reads c.in_err-stamp.ensures.reads

pub returns-in_default-2-clause-looks : goal.returns-in_default-2-clause-looks
returns-in_default-2-clause-looks g c =
    looks_twice g.S.Store _ _ _ _ c.self.view_is c.in_ok-deposit.ensures.reads c.in_ok-stamp.ensures.reads

pub returns-clause-looks : goal.returns-clause-looks
returns-clause-looks g c =
    looks_twice g.S.Store _ _ _ _ c.self.view_is c.in_ok-deposit.ensures.reads c.in_ok-stamp.ensures.reads

pub returns-in_err-deposit-clause-value : goal.returns-in_err-deposit-clause-value
returns-in_err-deposit-clause-value g c honest b s = no_answer _ _ c.from_residual.ensures.0

pub returns-in_err-stamp-clause-value : goal.returns-in_err-stamp-clause-value
returns-in_err-stamp-clause-value g c honest b s = no_answer _ _ c.from_residual-in_err-stamp.ensures.0
