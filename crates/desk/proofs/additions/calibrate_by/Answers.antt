use Rattle.std.proofs.Common.{sym, subst}
use Rattle.book.specs.Values.{calibration_view}
use Rattle.desk.specs.auxiliary.Obstacles.{outcome_with, told_with}
use Rattle.desk.specs.{CallContract.StepsBy, CallContract.no_signer, Command.Calibrate, Shown.numbered_as}
use Rattle.desk.proofs.calls.Added.{adding_is}
use Rattle.desk.proofs.additions.calibrate_by.Goals as goal

pub returns-clause-step : goal.returns-clause-step
returns-clause-step g c s =
    let command = Calibrate (calibration_view c.args.calibration.now) in
    subst (λ r. StepsBy g.B.Standing no_signer s command (outcome_with r) c.args.store.now c.add_calibration.new.store
    (told_with numbered_as r)) (sym (adding_is c.add_calibration.result c.map_err.result c.map_err.ensures.cases))
    (c.add_calibration.ensures.step s)
