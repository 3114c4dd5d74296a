use Rattle.std.proofs.{Common.refl, lemmas.Result.IfErr-weaker, lemmas.Result.IfOk-weaker}
use Rattle.policy.specs.View.{account_view, policy_view}
use Rattle.counter.specs.Fault.{fault_of_audit}
use Rattle.counter.proofs.Extracts.{leaves}
use Rattle.counter.proofs.Operations.{as_answered, both, told, told_refusal}
use Rattle.counter.proofs.extract.audit.Goals as goal

pub returns-clause-extracted : goal.returns-clause-extracted
returns-clause-extracted g c =
    let read = c.in_ok-policy.ensures.meant in
    let known = told fault_of_audit c.audit.result c.agreement_of.result _ c.agreement_of.ensures
    (both c.audit.result _ _
    (both c.audit.result _ _ c.audit.ensures.allowed c.audit.ensures.extracted)
    (as_answered c.audit.result _ c.audit.ensures.audited)) in
    IfOk-weaker c.agreement_of.result _ _
    (λ agree it. record {
      rules = read.0;
      rules_read = read.1;
      asked = _;
      meant = read.2;
      named = c.in_ok-account.ensures.found;
      first = refl;
      last = refl;
      check = refl;
      judge = refl;
      allowed = it.0.0;
      audited = rw it.1.1 at it.1.0;
      stamps = it.0.1.0;
      written = it.0.1.1;
    })
    known

pub returns-clause-agreed : goal.returns-clause-agreed
returns-clause-agreed g c =
    told fault_of_audit c.audit.result c.agreement_of.result _ c.agreement_of.ensures c.audit.ensures.agreed

pub returns-clause-failed : goal.returns-clause-failed
returns-clause-failed g c =
    told fault_of_audit c.audit.result c.agreement_of.result _ c.agreement_of.ensures c.audit.ensures.failed

pub returns-clause-refused : goal.returns-clause-refused
returns-clause-refused g c =
    let known = told_refusal fault_of_audit c.audit.result c.agreement_of.result _ c.agreement_of.ensures
    c.audit.ensures.refused in
    IfErr-weaker c.agreement_of.result _ _
    (λ fault it.
    rw it.2
    (leaves _ c.args.words.now (policy_view c.in_ok-policy.policy) (account_view c.in_ok-account.account.now)
    c.in_ok-policy.ensures.meant c.in_ok-account.ensures.found
    (g.O.Write.contents c.args.output.now) (g.O.Write.contents c.audit.new.output)
    (g.E.Write.contents c.args.errors.now) (g.E.Write.contents c.audit.new.errors) it.0 it.1))
    known
