use Rattle.std.proofs.Common.{refl, ap, SFits, w64, to_z-of_z, rules}
use Rattle.policy.specs.View.{account_view}
use Rattle.desk.specs.{Answers.answered, Calls.settings_view, Command.Deposit, Shown.deposited_as}
use Rattle.desk.proofs.calls.Opened.{steps_opened}
use Rattle.desk.proofs.desk.Desk.deposit.Goals as goal

pub returns-clause-step : goal.returns-clause-step
returns-clause-step g c =
    let reading : SFits w64 c.args.reading = search rules in
    let a = account_view c.args.account.now in
    let said = answered deposited_as c.deposit_with.result in
    steps_opened g.B.Standing c.steps_keep_their_promises.ensures _
    (record { setting = settings_view c.self.inside.settings; store = c.self.inside.store }) c.args.self.now _
    (Deposit a c.args.reading c.args.reference.now c.args.bytes.now) c.deposit_with.ensures.step.0
    c.deposit_with.new.store said said (λ s a. refl) c.self.view_is
    (ap (λ r. Deposit a r c.args.reference.now c.args.bytes.now) (to_z-of_z reading)) refl
    c.deposit_with.ensures.step.1
