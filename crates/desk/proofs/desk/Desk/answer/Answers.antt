use Rattle.std.proofs.Common.{refl, ap, SFits, w64, to_z-of_z, rules}
use Rattle.decide.specs.View.{account_asked}
use Rattle.desk.specs.{Answers.reply_as, Calls.settings_view, Command.Stamp}
use Rattle.desk.proofs.calls.Opened.{steps_opened}
use Rattle.desk.proofs.stamps.StampReplies.{granted_reply, rejected_reply}
use Rattle.desk.proofs.desk.Desk.answer.Goals as goal

pub returns-clause-step : goal.returns-clause-step
returns-clause-step g c =
    let reading : SFits w64 c.args.reading = search rules in
    steps_opened g.B.Standing c.steps_keep_their_promises.ensures _
    (record { setting = settings_view c.self.inside.settings; store = c.self.inside.store }) c.args.self.now _
    (Stamp (account_asked c.args.account) c.args.reading c.args.query.now) c.answer_with.ensures.step.0
    c.answer_with.new.store (reply_as c.answer_with.result) (reply_as c.answer_with.result) (λ s a. refl) c.self.view_is
    (ap (λ r. Stamp (account_asked c.args.account) r c.args.query.now) (to_z-of_z reading)) refl
    c.answer_with.ensures.step.1

pub returns-clause-granted : goal.returns-clause-granted
returns-clause-granted g c =
    granted_reply g.B.Standing g.G.Signer.signs g.G.Signer.fault_count c.args.signer.now c.answer_with.new.signer
    (account_asked c.args.account) _ c.args.query.now c.args.self.now
    (record { setting = settings_view c.self.inside.settings; store = c.answer_with.new.store }) (reply_as c.answer_with.result) (returns-clause-step g c)

pub returns-clause-rejected : goal.returns-clause-rejected
returns-clause-rejected g c =
    rejected_reply g.B.Standing g.G.Signer.signs g.G.Signer.fault_count c.args.signer.now c.answer_with.new.signer
    (account_asked c.args.account) _ c.args.query.now c.args.self.now
    (record { setting = settings_view c.self.inside.settings; store = c.answer_with.new.store }) (reply_as c.answer_with.result) (returns-clause-step g c)
