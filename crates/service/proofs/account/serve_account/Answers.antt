use Rattle.std.proofs.Common.{◌∙◌, SFits, w64, to_z-of_z, to_z, of_z, ap, refl, rules}
use Rattle.policy.specs.View.{account_view, policy_view}
use Rattle.service.specs.{Answers.unavailable, Reports.wants, Views.seen_at}
use Rattle.service.proofs.AccountLemmas.{account_told}
use Rattle.service.proofs.account.serve_account.Goals as goal

pub returns-in-Some-clause-served : goal.returns-in-Some-clause-served
returns-in-Some-clause-served g c = λ faults.
    let fits : SFits w64 c.args.context.now.at.reading = search rules in
    account_told g.B.Standing g.W.Write.contents (seen_at c.args.context.now faults)
    (to_z w64 (of_z w64 c.args.context.now.at.reading)) c.args.writer.now c.succeed.new.writer
    c.args.desk.now c.used_at.new.desk (policy_view c.policy.result.now)
    (account_view c.args.account.now) c.in-Ok.used c.deref.result.now c.succeed.result (to_z-of_z fits)
    (c.policy.ensures ∙ ap (λ s. s.file) c.used_at.ensures.setting) c.in-Ok.ensures.value
    (c.deref.ensures.value ∙ c.in-Some.ensures) c.succeed.ensures.sent

pub returns-in_default-clause-served : goal.returns-in_default-clause-served
returns-in_default-clause-served g c = λ faults. (unavailable, wants tt refl, c.out_of_memory.ensures.sent)

pub returns-in-None-clause-served : goal.returns-in-None-clause-served
returns-in-None-clause-served g c = λ faults. (unavailable, wants tt refl, c.out_of_memory-in-None.ensures.sent)
