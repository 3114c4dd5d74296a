use Rattle.std.proofs.Common.{◌≡◌, ◌∙◌, ap, false, subst, sym, true}
use Rattle.service.specs.{Checks.is_stamp, Known.IsDue}
use Rattle.service.specs.declared.due.Due.TheVariants as due
use Rattle.service.specs.declared.routes.Action.TheVariants as action
use Rattle.service.proofs.StampLemmas.{is_stamp_due, nothing_else, stamp_is}
use Rattle.service.proofs.request.Request.stamp_due.Goals as goal

pub returns-in_default-clause-due : goal.returns-in_default-clause-due
returns-in_default-clause-due c = λ file reading asked asks.
    nothing_else file reading c.args.self.now asked asks c.due.result c.due.ensures.due
    (c.in_default.not-Answer action.Stamp)

pub returns-then-not-is_stamp-clause-due : goal.returns-then-not-is_stamp-clause-due
returns-then-not-is_stamp-clause-due c = λ file reading asked asks.
    nothing_else file reading c.args.self.now asked asks c.due.result c.due.ensures.due
    (λ head body same.
    let other : is_stamp c.in-Answer.action ≡ false = sym c.is_stamp.ensures ∙ c.if-not-is_stamp.true in
    let apart : true ≡ false = sym (ap is_stamp_due (sym c.in-Answer.is ∙ same)) ∙ other in
    cc)

pub returns-clause-due : goal.returns-clause-due
returns-clause-due c =
    let stamp : is_stamp c.in-Answer.action ≡ true = sym c.is_stamp.ensures ∙ c.if-not-is_stamp.false in
    subst (λ a. IsDue c.args.self.now (due.Answer a c.in-Answer.head c.in-Answer.body)) (stamp_is c.in-Answer.action
    stamp)
    (subst (IsDue c.args.self.now) c.in-Answer.is c.due.ensures.due)
