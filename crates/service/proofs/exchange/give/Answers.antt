use Rattle.std.proofs.Common.{[], SFits, inl, inr, refl, rules, subst, to_z-of_z, w64}
use Rattle.service.specs.{Known.IsDue, Requests.asked_by, Views.head_view}
use Rattle.service.proofs.ServingLemmas.{answerable, closing, refusing_due}
use Rattle.service.proofs.exchange.give.Goals as goal

pub returns-in-Nothing-clause-served : goal.returns-in-Nothing-clause-served
returns-in-Nothing-clause-served g c = (
  [],
  λ r is before after read ended.
      closing _ _ _ _ _ _ r (subst (IsDue r) c.in-Nothing.is is) read ended
      (record { writer = refl; idle = record { desk = refl; signer = refl } }),
)

pub returns-in-Refusal-clause-served : goal.returns-in-Refusal-clause-served
returns-in-Refusal-clause-served g c =
    let fits : SFits w64 c.args.surroundings.reading = search rules in (
      [],
      λ r is before after read ended.
          refusing_due _ _ _ _ _ _ r c.in-Refusal.refusal c.refuse.result (subst (IsDue r) c.in-Refusal.is is) read
          ended
          (record { desk = refl; signer = refl }) (rw (to_z-of_z fits) at c.refuse.ensures.sent),
    )

pub returns-in-Answer-clause-served : goal.returns-in-Answer-clause-served
returns-in-Answer-clause-served g c =
    let fits : SFits w64 c.args.surroundings.reading = search rules in
    let handled = rw (to_z-of_z fits) at c.handle.ensures.served in (
      handled.0,
      λ r is before after read ended.
          handled.1 before after
          (answerable c.args.desk.now.setting.file c.args.surroundings.reading (subst (IsDue r) c.in-Answer.is is)
          read),
    )

pub returns-in-Answer-clause-failed : goal.returns-in-Answer-clause-failed
returns-in-Answer-clause-failed g c =
    let file = c.args.desk.now.setting.file in
    let reading = c.args.surroundings.reading in
    let fits : SFits w64 reading = search rules in
    elim (rw (to_z-of_z fits) at c.handle.ensures.failed) [
      | inl tells ↦ inl tells
      | inr rows ↦
          inr (λ r is before after read. (
            asked_by file reading (head_view c.in-Answer.head) c.in-Answer.body.now c.in-Answer.action,
            rows,
            answerable file reading (subst (IsDue r) c.in-Answer.is is) read,
          ))
    ]
