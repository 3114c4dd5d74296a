use Rattle.std.proofs.Common.{[], Ok, refl, sym, subst}
use Rattle.desk.specs.{Answers.reply_as, Answers.answered, Calls.refused, Calls.why_of, Calls.settings_view}
use Rattle.desk.specs.{Command.Answer, Command.Finish, Command.Refused, Effects.fault_by, Effects.in_seal}
use Rattle.desk.specs.{Outcome.all_fine, CallContract.no_signer, auxiliary.Wholes.Ends}
use Rattle.desk.proofs.stamps.Endings.{finishes, finish_refused}
use Rattle.desk.proofs.calls.Opened.{steps_opened, refused_as}
use Rattle.desk.proofs.desk.Desk.finish.Goals as goal

pub returns-clause-step : goal.returns-clause-step
returns-clause-step g c =
    let command = Finish c.args.pending c.args.signature.now in
    let says = reply_as c.reply_with.result in
    steps_opened g.B.Standing c.steps_keep_their_promises.ensures no_signer
    (record { setting = settings_view c.self.inside.settings; store = c.self.inside.store }) c.args.self.now
    command command (all_fine (Ok [])) c.finish_with.new.store says says (λ s a. refl) c.self.view_is refl refl
    (finishes g.B.Standing (settings_view c.self.inside.settings) c.args.pending c.args.signature.now
    c.self.inside.store c.finish_with.new.store c.reply_with.result
    (subst (λ (a : Answer). Ends g.B.Standing in_seal c.args.pending (Ok c.args.signature.now) (all_fine (Ok []))
    c.self.inside.store c.finish_with.new.store (Ok a)) (sym c.reply_with.ensures) c.in_ok-kept.ensures.ends))

pub returns-in_err-kept-clause-step : goal.returns-in_err-kept-clause-step
returns-in_err-kept-clause-step g c =
    let command = Finish c.args.pending c.args.signature.now in
    let r = c.in_err-kept.field-0.0 in
    let fault = fault_by (why_of r) in
    steps_opened g.B.Standing c.steps_keep_their_promises.ensures no_signer
    (record { setting = settings_view c.self.inside.settings; store = c.self.inside.store }) c.args.self.now
    command command (refused r) c.finish_with.new.store (Refused fault) (answered reply_as c.from_residual.result)
    (λ s a. refl) c.self.view_is refl
    (refused_as reply_as c.from_residual.result fault c.from_residual.ensures.1)
    (finish_refused g.B.Standing (settings_view c.self.inside.settings) c.args.pending c.args.signature.now
    c.self.inside.store c.finish_with.new.store r c.in_err-kept.ensures.refusals
    c.in_err-kept.ensures.ends)
