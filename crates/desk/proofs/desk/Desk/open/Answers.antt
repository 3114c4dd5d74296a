use Rattle.desk.specs.Calls.{settings_view}
use Rattle.desk.proofs.calls.Opened.{opens_by, opening_refused}
use Rattle.desk.proofs.desk.Desk.open.Goals as goal

pub returns-in-Ok-clause-step : goal.returns-in-Ok-clause-step
returns-in-Ok-clause-step g c =
    let s = settings_view c.args.settings in
    opens_by g.B.Standing c.steps_keep_their_promises.ensures s c.args.store c.install.new.store
    (c.in-Ok.ensures.step s c.args.settings.algorithm.now)

pub returns-in-Err-clause-step : goal.returns-in-Err-clause-step
returns-in-Err-clause-step g c =
    let s = settings_view c.args.settings in
    opening_refused g.B.Standing c.steps_keep_their_promises.ensures s c.in-Err.obstacle c.from.result c.args.store
    c.install.new.store c.from.ensures (c.in-Err.ensures.step s c.args.settings.algorithm.now)
