use Rattle.tables.proofs.Words.{HasCleanDisk, arith, err_from_is_err_and, refl, rules, state, subst, sym, ◌≡◌}
use Rattle.tables.proofs.{CommitLemmas.committed, MigrateLemmas.begins, MigrateLemmas.carried_on}
use Rattle.tables.specs.{Layout.IsDatabaseIn, Transaction.CommitsFrom, Versions.number_of}
use Rattle.tables.proofs.migration.take_on.Goals as goal

pub returns-clause-commits : goal.returns-clause-commits
returns-clause-commits g c =
    let begun = c.transaction-tx.ensures.begun in
    let mid = c.go_on.new.tx.conn.now in
    let same : c.commit.new.self.0 ≡ c.conn-2-1.given.0 = search rules in
    subst (λ h. CommitsFrom (IsDatabaseIn (number_of c.args.from)) (Unit {0}) (λ t. t) (state g.S.Store c.args.conn.now)
    (state g.S.Store h) c.commit.result) same
    (committed g.S.Store (IsDatabaseIn (number_of c.args.from)) (Unit {0}) (λ t. t) c.args.conn.now mid
    c.commit.new.self.0 c.in_ok-go_on.field-0
    (rw begun at (carried_on (number_of c.args.from) _ _ _ c.in_ok-go_on.ensures.leads))
    c.commit.ensures.survives c.commit.result c.commit.ensures.ok c.commit.ensures.err)

pub returns-in_err-go_on-clause-taken : goal.returns-in_err-go_on-clause-taken
returns-in_err-go_on-clause-taken g c clean =
    let failing = err_from_is_err_and c.from_residual.result c.from_residual.ensures.1 in
    let leads = rw c.transaction-tx.ensures.begun at c.in_err-go_on.ensures.leads in
    let same : c.drop-tx.new.self.0 ≡ c.conn-1.given.0 = search rules in
    let last : HasCleanDisk (state g.S.Store c.drop-tx.new.self.0) =
    subst (λ h. HasCleanDisk (state g.S.Store h)) (sym same) clean in
    let before : HasCleanDisk (state g.S.Store c.go_on.new.tx.conn.now) =
    omega (arith, c.drop-tx.ensures.survives.clean) in
    rw (failing.1, failing.2) (λ t is. leads.untaken before refl t (begins (number_of c.args.from) t _ is))
