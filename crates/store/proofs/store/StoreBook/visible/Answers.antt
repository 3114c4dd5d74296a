use Rattle.store.proofs.DepositRows.{seen_by_owner, seen_by_reader}
use Rattle.store.proofs.{Words.IfOk-weaker, Words.unseen_beyond, Calls.no_answer, Walk.looks_after}
use Rattle.store.proofs.store.StoreBook.visible.Goals as goal

pub returns-then-number-gt-GREATEST_NUMBER-clause-value : goal.returns-then-number-gt-GREATEST_NUMBER-clause-value
returns-then-number-gt-GREATEST_NUMBER-clause-value g c honest b s =
    unseen_beyond _ b _ s.sound c.if-number-gt-GREATEST_NUMBER.true

pub returns-then-reads-clause-value : goal.returns-then-reads-clause-value
returns-then-reads-clause-value g c honest b s =
    seen_by_reader b _ _ _ s.sound c.if-reads.true (c.in_ok-reads.ensures.value honest b s)

pub returns-clause-looks : goal.returns-clause-looks
returns-clause-looks g c = looks_after g.S.Store _ _ _ c.in_ok-reads.ensures.looks c.is_owner.ensures.looks

pub returns-clause-value : goal.returns-clause-value
returns-clause-value g c honest b s =
    let read = c.in_ok-reads.ensures.value (c.is_owner.ensures.looks.honest honest) b s in
    IfOk-weaker c.is_owner.result _ _ (λ owns. seen_by_owner b _ _ _ owns s.sound c.if-reads.false read)
    (c.is_owner.ensures.value honest b (c.in_ok-reads.ensures.looks.stands b s))

pub returns-in_err-reads-clause-value : goal.returns-in_err-reads-clause-value
returns-in_err-reads-clause-value g c honest b s = no_answer _ _ c.from_residual.ensures.0
