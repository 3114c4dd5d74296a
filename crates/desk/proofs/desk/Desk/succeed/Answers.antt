use Rattle.std.proofs.lemmas.Result.{err_from_is_err_and}
use Rattle.desk.specs.{Calls.in_force_of, Calls.settings_view, CallContract.desk_of}
use Rattle.desk.proofs.calls.Opened.{succeeds_by, succession_refused}
use Rattle.desk.proofs.desk.Desk.succeed.Goals as goal

pub returns-clause-step : goal.returns-clause-step
returns-clause-step g c =
    let s = settings_view c.self.inside.settings in
    succeeds_by g.B.Standing c.steps_keep_their_promises.ensures (desk_of s c.self.inside.store) c.args.self.now
    (in_force_of c.args.identity.now c.args.algorithm.now) c.succeed_by.new.store
    (settings_view c.in_ok-settings.settings) c.self.view_is c.in_ok-settings.ensures.brought
    (c.in_ok-settings.ensures.step s)

pub returns-in_err-settings-clause-step : goal.returns-in_err-settings-clause-step
returns-in_err-settings-clause-step g c =
    let s = settings_view c.self.inside.settings in
    let told = err_from_is_err_and c.from_residual.result c.from_residual.ensures.1 in
    rw told.1 (succession_refused g.B.Standing c.steps_keep_their_promises.ensures (desk_of s c.self.inside.store)
    c.args.self.now (in_force_of c.args.identity.now c.args.algorithm.now) c.in_err-settings.field-0.0 told.0
    c.succeed_by.new.store c.self.view_is told.2 (c.in_err-settings.ensures.step s))
