use Rattle.tables.proofs.Words.{Database, Err, IsTrue, Ok, entries_view, rules, state, subst, ◌≡◌}
use Rattle.tables.proofs.CommitLemmas.{committed}
use Rattle.tables.specs.{Changes.applied_all, Schema.no_schema, Tables.no_rows, Versions.Creates}
use Rattle.tables.proofs.creation.make_tables.Goals as goal

pub returns-in-Ok-commit-clause-made : goal.returns-in-Ok-commit-clause-made
returns-in-Ok-commit-clause-made g c =
    let begun = c.transaction-tx.ensures.begun in
    let mid = c.make_filled.new.tx.conn.now in
    let entries = entries_view c.args.entries.now in
    let same : c.commit.new.self.0 ≡ c.conn-2-1.given.0 = search rules in
    subst (λ h. Creates entries (state g.S.Store c.args.conn.now) (state g.S.Store h) (Ok tt)) same
    (committed g.S.Store (λ _ (d : Database). d.schema ≡ no_schema) (IsTrue (state g.S.Store c.args.conn.now).is_open)
    (λ _. applied_all entries no_rows) c.args.conn.now mid c.commit.new.self.0 tt (rw begun at (c.in-Ok.ensures.filled))
    c.in-Ok-commit.ensures.survives (Ok tt) c.in-Ok-commit.ensures.ok c.in-Ok-commit.ensures.err)

pub returns-in-Err-commit-clause-undone : goal.returns-in-Err-commit-clause-undone
returns-in-Err-commit-clause-undone g c =
    let begun = c.transaction-tx.ensures.begun in
    let mid = c.make_filled.new.tx.conn.now in
    let entries = entries_view c.args.entries.now in
    let error = c.in-Err-commit.error in
    let same : c.commit.new.self.0 ≡ c.conn-2-1.given.0 = search rules in (
      error,
      subst (λ h. Creates entries (state g.S.Store c.args.conn.now) (state g.S.Store h) (Err error)) same
          (committed g.S.Store (λ _ (d : Database). d.schema ≡ no_schema)
          (IsTrue (state g.S.Store c.args.conn.now).is_open) (λ _. applied_all entries no_rows) c.args.conn.now mid
          c.commit.new.self.0 tt (rw begun at (c.in-Ok.ensures.filled)) c.in-Err-commit.ensures.survives (Err error)
          c.in-Err-commit.ensures.ok c.in-Err-commit.ensures.err),
    )
