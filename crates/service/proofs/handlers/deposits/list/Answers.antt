use Rattle.std.proofs.Common.{◌∙◌, map, refl, ap}
use Rattle.policy.specs.View.{account_view}
use Rattle.book.specs.Values.{listed_view}
use Rattle.desk.specs.Command.{ListAll, Listed, Refused}
use Rattle.service.specs.Answers.{refusal_answer, success, unavailable}
use Rattle.service.specs.Served.{plainly, wants_lines}
use Rattle.service.specs.declared.answer.Media.TheVariants as media
use Rattle.service.proofs.{ExtractLemmas.sent_behind, HandledLemmas.told}
use Rattle.service.proofs.handlers.deposits.list.Goals as goal

pub returns-in-Err-clause-served : goal.returns-in-Err-clause-served
returns-in-Err-clause-served g c =
    told _ _ _ _ _ _ _ _ _ _ _ _ (ListAll (account_view c.args.account.now)) (Refused c.in-Err.fault) (refusal_answer
    c.from.result)
    (c.in-Err.ensures.step, refl) (plainly (ap refusal_answer c.from.ensures))
    (sent_behind g.W.Write.contents _ _ c.list_within.new.output _ c.list_within.ensures.unwritten (refusal_answer
    c.from.result) _ c.refuse.ensures.sent)

pub returns-in-Some-clause-served : goal.returns-in-Some-clause-served
returns-in-Some-clause-served g c =
    told _ _ _ _ _ _ _ _ _ _ _ _ (ListAll (account_view c.args.account.now)) (Listed (map listed_view
    c.in-Ok.rows.items))
    (success 200 media.Text c.deref-in-Some.result.now) (c.in-Ok.ensures.step, refl)
    (plainly (ap (success 200 media.Text)
    (c.deref-in-Some.ensures.value ∙ rw c.deref.ensures.value at c.in-Some.ensures)))
    (sent_behind g.W.Write.contents _ _ c.list_within.new.output _ c.list_within.ensures.unwritten (success 200
    media.Text c.deref-in-Some.result.now) _
    c.succeed.ensures.sent)

pub returns-clause-served : goal.returns-clause-served
returns-clause-served g c =
    told _ _ _ _ _ _ _ _ _ _ _ _ (ListAll (account_view c.args.account.now)) (Listed (map listed_view
    c.in-Ok.rows.items)) unavailable
    (c.in-Ok.ensures.step, refl)
    (wants_lines (account_view c.args.account.now) refl (map listed_view c.in-Ok.rows.items) refl
    (rw c.deref.ensures.value at c.in-None.ensures) refl)
    (sent_behind g.W.Write.contents _ _ c.list_within.new.output _ c.list_within.ensures.unwritten unavailable _
    c.out_of_memory.ensures.sent)
