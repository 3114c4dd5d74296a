use Rattle.std.proofs.Common.{refl, ap, SFits, w64, to_z-of_z, rules}
use Rattle.decide.specs.View.{account_asked}
use Rattle.desk.specs.Answers.{begun_as, answered, ended_as}
use Rattle.desk.specs.{Calls.outcome_of, Calls.settings_view, Command.Begin, Command.Begun, Effects.for_parts}
use Rattle.desk.specs.{CallContract.no_signer, auxiliary.Wholes.answer_by}
use Rattle.desk.proofs.stamps.Beginnings.{begins, begins_steps}
use Rattle.desk.proofs.calls.Opened.{steps_opened}
use Rattle.desk.proofs.desk.Desk.begin.Goals as goal

pub returns-clause-step : goal.returns-clause-step
returns-clause-step g c =
    let s = settings_view c.self.inside.settings in
    let reading : SFits w64 c.args.reading = search rules in
    let reserved = c.reserve.result in
    steps_opened g.B.Standing c.steps_keep_their_promises.ensures no_signer
    (record { setting = s; store = c.self.inside.store }) c.args.self.now _
    (Begin (account_asked c.args.account) c.args.reading c.args.query.now) (outcome_of reserved) c.reserve.new.store
    (answer_by for_parts (ended_as (λ p. Begun p) reserved)) (answered begun_as c.begun_by.result) (λ s a. refl)
    c.self.view_is (ap (λ r. Begin (account_asked c.args.account) r c.args.query.now) (to_z-of_z reading))
    c.begun_by.ensures.answer
    (begins_steps g.B.Standing s _ reserved c.self.inside.store c.reserve.new.store
    (begins g.B.Standing s _ c.judge_one-judged.result reserved c.self.inside.store c.judge_one-judged.new.store
    c.reserve.new.store c.judge_one-judged.ensures c.reserve.ensures.reserves))
