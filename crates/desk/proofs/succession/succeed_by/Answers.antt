use Rattle.std.proofs.lemmas.Result.{err_from_is_err_and}
use Rattle.desk.proofs.succession.succeed_by.Goals as goal

pub returns-clause-step : goal.returns-clause-step
returns-clause-step g c s = c.in_ok-install.ensures.step s c.args.algorithm.now

pub returns-in_err-install-clause-step : goal.returns-in_err-install-clause-step
returns-in_err-install-clause-step g c s =
    let told = err_from_is_err_and c.from_residual.result c.from_residual.ensures.1 in
    rw (told.1, told.2) (c.in_err-install.ensures.step s c.args.algorithm.now)
