use Rattle.std.proofs.{Common.inl, lemmas.Result.err_from_is_err_and}
use Rattle.operations.proofs.InDatabases.{anyway}
use Rattle.operations.proofs.audits.audit.Goals as goal

pub returns-in_err-perform_at-clause-unaudited : goal.returns-in_err-perform_at-clause-unaudited
returns-in_err-perform_at-clause-unaudited g c =
    let failing = err_from_is_err_and c.from_residual.result c.from_residual.ensures.1 in
    rw failing.1 (inl (c.in_err-perform_at.field-0.0, failing.2, c.in_err-perform_at.ensures.refused))

pub returns-clause-unaudited : goal.returns-clause-unaudited
returns-clause-unaudited g c = anyway _ _ _ c.in_ok-perform_at.ensures.moved
