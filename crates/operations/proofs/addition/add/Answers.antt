use Rattle.std.proofs.{Common.ℕ, lemmas.Result.err_from_is_err_and}
use Rattle.operations.proofs.InDatabases.{not_backwards}
use Rattle.operations.proofs.addition.add.Goals as goal

pub returns-in_err-perform_at-clause-backwards : goal.returns-in_err-perform_at-clause-backwards
returns-in_err-perform_at-clause-backwards g c =
    let failing = err_from_is_err_and c.from_residual.result c.from_residual.ensures.1 in
    λ is.
    absurd (not_backwards {A = ℕ} c.in_err-perform_at.field-0.0 c.in_err-perform_at.ensures.refusals
    (cc (failing.1, failing.2, is)))
