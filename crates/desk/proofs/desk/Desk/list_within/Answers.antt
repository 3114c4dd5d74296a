use Rattle.std.proofs.Common.{refl}
use Rattle.policy.specs.View.{account_view}
use Rattle.desk.specs.{Calls.settings_view, Command.ListAll, Shown.listed_as}
use Rattle.desk.proofs.calls.Opened.{steps_told}
use Rattle.desk.proofs.desk.Desk.list_within.Goals as goal

pub returns-clause-step : goal.returns-clause-step
returns-clause-step g c =
    steps_told g.B.Standing c.steps_keep_their_promises.ensures
    (record { setting = settings_view c.self.inside.settings; store = c.self.inside.store }) c.args.self.now
    (ListAll (account_view c.args.account.now)) listed_as c.list_to.result c.map_err.result c.list_to.new.store (λ s a. refl)
    c.self.view_is c.map_err.ensures.cases c.list_to.ensures.step
