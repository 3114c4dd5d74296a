use Rattle.std.proofs.Common.{refl, ◌∙◌, ap}
use Rattle.policy.specs.View.{account_view}
use Rattle.book.specs.{Entries.reader_view, Values.calibration_view, Values.hold_view}
use Rattle.desk.specs.Calls.{settings_view, in_force_of}
use Rattle.desk.specs.Command.{Grant, Revoke, Calibrate, Hold}
use Rattle.desk.specs.Shown.{done_as, numbered_as}
use Rattle.desk.specs.{Asked.command_view, Asked.answer_view}
use Rattle.desk.proofs.journeys.RunsOn.{obeyed_by, obeyed_succession, succeeded_after}
use Rattle.desk.proofs.run.obey.Goals as goal

pub returns-in-Grant-clause-step : goal.returns-in-Grant-clause-step
returns-in-Grant-clause-step g c =
    let s = settings_view c.args.settings in
    obeyed_by g.B.Standing g.G.Signer.signs g.G.Signer.fault_count c.args.signer.now s
    (Grant (account_view c.in-Grant.account.now) c.in-Grant.number (reader_view c.in-Grant.reader))
    (command_view c.args.command.now) done_as c.change_by.result c.args.store.now c.change_by.new.store
    (answer_view c.done.result)
    (λ s a. refl) (λ a. tt) (ap command_view c.in-Grant.is) c.done.ensures c.change_by.ensures.step

pub returns-in-Revoke-clause-step : goal.returns-in-Revoke-clause-step
returns-in-Revoke-clause-step g c =
    let s = settings_view c.args.settings in
    obeyed_by g.B.Standing g.G.Signer.signs g.G.Signer.fault_count c.args.signer.now s
    (Revoke (account_view c.in-Revoke.account.now) c.in-Revoke.number (reader_view c.in-Revoke.reader))
    (command_view c.args.command.now) done_as c.change_by-in-Revoke.result c.args.store.now c.change_by-in-Revoke.new.store
    (answer_view c.done-in-Revoke.result)
    (λ s a. refl) (λ a. tt) (ap command_view c.in-Revoke.is) c.done-in-Revoke.ensures c.change_by-in-Revoke.ensures.step

pub returns-in-Calibrate-clause-step : goal.returns-in-Calibrate-clause-step
returns-in-Calibrate-clause-step g c =
    let s = settings_view c.args.settings in
    obeyed_by g.B.Standing g.G.Signer.signs g.G.Signer.fault_count c.args.signer.now s
    (Calibrate (calibration_view c.in-Calibrate.calibration))
    (command_view c.args.command.now) numbered_as c.calibrate_by.result c.args.store.now c.calibrate_by.new.store
    (answer_view (c.numbered.result))
    (λ s a. refl) (λ a. tt) (ap command_view c.in-Calibrate.is) c.numbered.ensures (c.calibrate_by.ensures.step s)

pub returns-in-Hold-clause-step : goal.returns-in-Hold-clause-step
returns-in-Hold-clause-step g c =
    let s = settings_view c.args.settings in
    obeyed_by g.B.Standing g.G.Signer.signs g.G.Signer.fault_count c.args.signer.now s (Hold (hold_view c.in-Hold.hold))
    (command_view c.args.command.now) numbered_as c.hold_by.result c.args.store.now c.hold_by.new.store
    (answer_view c.numbered-in-Hold.result)
    (λ s a. refl) (λ a. tt) (ap command_view c.in-Hold.is) c.numbered-in-Hold.ensures (c.hold_by.ensures.step s)

pub returns-in-Succeed-clause-step : goal.returns-in-Succeed-clause-step
returns-in-Succeed-clause-step g c =
    let s = settings_view c.args.settings in
    let k = in_force_of c.in-Succeed.identity.now c.in-Succeed.algorithm.now in
    obeyed_succession g.B.Standing g.G.Signer.signs g.G.Signer.fault_count c.args.signer.now s k
    (command_view c.args.command.now) c.succeed_by.result c.args.store.now c.succeed_by.new.store
    (answer_view c.succeeded.result.0) (settings_view c.succeeded.result.1) (ap command_view c.in-Succeed.is)
    c.succeeded.ensures.answer
    (ap settings_view c.succeeded.ensures.after ∙ succeeded_after c.succeed_by.result c.args.settings k
    c.succeed_by.ensures.brought) (c.succeed_by.ensures.step s) c.succeed_by.ensures.opened
