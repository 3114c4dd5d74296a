use Rattle.tables.proofs.{Words.err_from_is_err_and, MigrateLemmas.leads_nowhere, MigrateLemmas.leads_then}
use Rattle.tables.specs.Layout.{IsDatabaseOf, IsOnTheWay}
use Rattle.tables.proofs.migration.go_on_from_first.Goals as goal

pub returns-in_err-make_group_readers-clause-leads : goal.returns-in_err-make_group_readers-clause-leads
returns-in_err-make_group_readers-clause-leads g c =
    let failing = err_from_is_err_and c.from_residual.result c.from_residual.ensures.1 in
    rw (failing.1, failing.2)
    (leads_nowhere (IsOnTheWay 1) (IsOnTheWay 2) IsDatabaseOf _ _ _ c.in_err-make_group_readers.ensures.leads)

pub returns-clause-leads : goal.returns-clause-leads
returns-clause-leads g c =
    leads_then (IsOnTheWay 1) (IsOnTheWay 2) IsDatabaseOf _ _ _ c.in_ok-make_group_readers.field-0 c.in_ok-make_group_readers.ensures.leads
    c.go_on_from_second.result c.go_on_from_second.ensures.leads
