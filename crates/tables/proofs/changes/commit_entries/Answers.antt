use Rattle.tables.proofs.{Words.entries_view, Words.rules, Words.state, Words.subst, Words.◌≡◌, CommitLemmas.committed}
use Rattle.tables.specs.{Changes.applied_all, Transaction.Commits, Transaction.IsSoundOf}
use Rattle.tables.proofs.changes.commit_entries.Goals as goal

pub returns-clause-commits : goal.returns-clause-commits
returns-clause-commits g c =
    let begun = c.transaction-tx.ensures.begun in
    let mid = c.make_each.new.tx.conn.now in
    let same : c.commit.new.self.0 ≡ c.conn-2-1.given.0 = search rules in
    subst (λ h. Commits (applied_all (entries_view c.args.entries.now)) (state g.S.Store c.args.conn.now) (state g.S.Store h)
    c.commit.result) same
    (committed g.S.Store IsSoundOf (Unit {0}) (applied_all (entries_view c.args.entries.now)) c.args.conn.now mid
    c.commit.new.self.0 c.in_ok-make_each.field-0 (rw begun at (c.in_ok-make_each.ensures.carries))
    c.commit.ensures.survives c.commit.result c.commit.ensures.ok c.commit.ensures.err)
