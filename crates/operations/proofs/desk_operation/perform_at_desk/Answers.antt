use Rattle.std.proofs.{Common.inl, lemmas.Result.err_from_is_err_and}
use Rattle.operations.proofs.InDatabases.{answered_in, refused_in}
use Rattle.operations.proofs.desk_operation.perform_at_desk.Goals as goal

pub returns-clause-moved : goal.returns-clause-moved
returns-clause-moved g c = answered_in _ _ _ _ _ c.in_ok-perform_at.ensures.moved

pub returns-clause-unmoved : goal.returns-clause-unmoved
returns-clause-unmoved g c = refused_in _ _ _ _ _ _ c.in_ok-perform_at.ensures.moved

pub returns-in_err-perform_at-clause-unmoved : goal.returns-in_err-perform_at-clause-unmoved
returns-in_err-perform_at-clause-unmoved g c =
    let failing = err_from_is_err_and c.from_residual.result c.from_residual.ensures.1 in
    rw failing.1 (inl (c.in_err-perform_at.field-0.0, failing.2, c.in_err-perform_at.ensures.refused))
