use Rattle.store.proofs.{Words.reader_view, Calls.kept_seen, Calls.looks_now, Lists.right_view}
use Rattle.store.proofs.store.Store.next_right.Goals as goal

pub returns-in_err-next-clause-looks : goal.returns-in_err-next-clause-looks
returns-in_err-next-clause-looks g c = looks_now g.S.Store _ _ _ c.self.view_is c.in_err-next.ensures.looks.reads

pub returns-then-is_after-clause-value : goal.returns-then-is_after-clause-value
returns-then-is_after-clause-value g c honest b s known = known (c.is_after.ensures c.if-is_after.true)

pub returns-clause-value : goal.returns-clause-value
returns-clause-value g c honest b s known =
    right_view (reader_view c.args.reader) b _ _ (c.in_ok-next.ensures.looks.value honest _ (kept_seen g.S.Store _ _ b c.self.view_is s))

pub returns-clause-looks : goal.returns-clause-looks
returns-clause-looks g c = looks_now g.S.Store _ _ _ c.self.view_is c.in_ok-next.ensures.looks.reads
