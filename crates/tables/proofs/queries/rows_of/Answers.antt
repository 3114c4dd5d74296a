use Rattle.sqlite.specs.declared.error.ErrorCode.TheVariants.{OutOfMemory}
use Rattle.tables.proofs.Words.{HasCleanDisk, IfErr, IsTrue, OnOk, SqliteFailure, bound, rules, state, subst, ◌≡◌, ◌≢◌}
use Rattle.tables.proofs.AskLemmas.{looked, still_unanswered, was_opened}
use Rattle.tables.specs.{QueryAnswers.IsPlainIn, QueryAnswers.Looks, Versions.IsUnanswered}
use Rattle.tables.proofs.queries.rows_of.Goals as goal

pub returns-clause-looks : goal.returns-clause-looks
returns-clause-looks g c =
    let begun = c.transaction-tx.ensures.begun in
    let same : c.rollback.new.self.0 ≡ c.conn-1.given.0 = search rules in
    subst (λ h. Looks (state g.S.Store c.args.conn.now) (state g.S.Store h)) same
    (looked g.S.Store c.args.conn.now c.rows_in-rows.new.tx.conn.now c.rollback.new.self.0
    c.args.sql.now (bound c.args.params.now) c.rows_in-rows.result (rw begun at (c.rows_in-rows.ensures.asks))
    c.rollback.ensures.survives c.rollback.ensures.undone)

pub returns-clause-opened : goal.returns-clause-opened
returns-clause-opened g c =
    let begun = c.transaction-tx.ensures.begun in
    let same : c.rollback.new.self.0 ≡ c.conn-1.given.0 = search rules in
    subst (λ h. HasCleanDisk (state g.S.Store h)
    → OnOk c.rows_in-rows.result (IsTrue (state g.S.Store c.args.conn.now).is_open)) same
    (was_opened g.S.Store c.args.conn.now c.rows_in-rows.new.tx.conn.now c.rollback.new.self.0
    c.args.sql.now (bound c.args.params.now) c.rows_in-rows.result (rw begun at (c.rows_in-rows.ensures.asks))
    c.rollback.ensures.survives c.rollback.ensures.undone)

pub returns-clause-unanswered : goal.returns-clause-unanswered
returns-clause-unanswered g c =
    let begun = c.transaction-tx.ensures.begun in
    let same : c.rollback.new.self.0 ≡ c.conn-1.given.0 = search rules in
    subst (λ h. HasCleanDisk (state g.S.Store h) → IsPlainIn (state g.S.Store c.args.conn.now).now.schema c.args.sql.now
    → IfErr c.rows_in-rows.result (λ e. e ≢ SqliteFailure OutOfMemory
    → IsUnanswered c.args.sql.now (bound c.args.params.now) (state g.S.Store c.args.conn.now) (state g.S.Store h))) same
    (still_unanswered g.S.Store c.args.conn.now c.rows_in-rows.new.tx.conn.now c.rollback.new.self.0
    c.args.sql.now (bound c.args.params.now) c.rows_in-rows.result (rw begun at (c.rows_in-rows.ensures.asks))
    c.rollback.ensures.survives c.rollback.ensures.undone (rw begun at (c.rows_in-rows.ensures.unanswered)))
