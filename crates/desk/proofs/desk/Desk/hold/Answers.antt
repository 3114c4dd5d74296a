use Rattle.std.proofs.Common.{refl}
use Rattle.book.specs.Values.{hold_view}
use Rattle.desk.specs.auxiliary.Obstacles.{adding, outcome_with, told_with}
use Rattle.desk.specs.{Answers.entered, Calls.settings_view, Command.Hold, Shown.numbered_as, CallContract.no_signer}
use Rattle.desk.proofs.{calls.Entered.entered_as_told, calls.Opened.steps_opened}
use Rattle.desk.proofs.desk.Desk.hold.Goals as goal

pub returns-clause-step : goal.returns-clause-step
returns-clause-step g c =
    let outcome = outcome_with (adding c.add_hold.result) in
    let command = Hold (hold_view c.args.hold.now) in
    steps_opened g.B.Standing c.steps_keep_their_promises.ensures no_signer
    (record { setting = settings_view c.self.inside.settings; store = c.self.inside.store }) c.args.self.now
    command command outcome c.add_hold.new.store (told_with numbered_as (adding c.add_hold.result))
    (entered c.add_hold.result) (λ s a. refl) c.self.view_is refl (entered_as_told c.add_hold.result)
    (c.add_hold.ensures.step (settings_view c.self.inside.settings))
