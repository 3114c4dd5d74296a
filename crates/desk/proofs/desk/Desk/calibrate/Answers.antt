use Rattle.std.proofs.Common.{refl}
use Rattle.book.specs.Values.{calibration_view}
use Rattle.desk.specs.auxiliary.Obstacles.{adding, outcome_with, told_with}
use Rattle.desk.specs.CallContract.{no_signer}
use Rattle.desk.specs.{Answers.entered, Calls.settings_view, Command.Calibrate, Shown.numbered_as}
use Rattle.desk.proofs.{calls.Entered.entered_as_told, calls.Opened.steps_opened}
use Rattle.desk.proofs.desk.Desk.calibrate.Goals as goal

pub returns-clause-step : goal.returns-clause-step
returns-clause-step g c =
    let outcome = outcome_with (adding c.add_calibration.result) in
    let command = Calibrate (calibration_view c.args.calibration.now) in
    steps_opened g.B.Standing c.steps_keep_their_promises.ensures no_signer
    (record { setting = settings_view c.self.inside.settings; store = c.self.inside.store }) c.args.self.now
    command command outcome c.add_calibration.new.store (told_with numbered_as (adding c.add_calibration.result))
    (entered c.add_calibration.result) (λ s a. refl) c.self.view_is refl (entered_as_told c.add_calibration.result)
    (c.add_calibration.ensures.step (settings_view c.self.inside.settings))
