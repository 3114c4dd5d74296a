use Rattle.std.proofs.Common.{refl}
use Rattle.policy.specs.View.{account_view}
use Rattle.desk.specs.{Calls.settings_view, Command.Show, Shown.shown_as}
use Rattle.desk.proofs.calls.Opened.{steps_told}
use Rattle.desk.proofs.desk.Desk.show.Goals as goal

pub returns-clause-step : goal.returns-clause-step
returns-clause-step g c =
    steps_told g.B.Standing c.steps_keep_their_promises.ensures
    (record { setting = settings_view c.self.inside.settings; store = c.self.inside.store }) c.args.self.now
    (Show (account_view c.args.account.now) c.args.number) shown_as c.show_to.result c.map_err.result c.show_to.new.store (λ s a. refl)
    c.self.view_is c.map_err.ensures.cases c.show_to.ensures.step
