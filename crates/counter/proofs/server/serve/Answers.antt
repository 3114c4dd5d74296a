use Rattle.std.proofs.Common.{◌∙◌, Err, ap, inl, inr, sym}
use Rattle.std.proofs.lemmas.Result.{IfErr-weaker, err_from_is_err_and, on_ok_weaker}
use Rattle.policy.specs.View.{policy_view}
use Rattle.counter.specs.Fault.{fault_of_operation}
use Rattle.counter.proofs.Starts.{file_not_failed, start_is_serving, start_not_failed, told_done, told_failed}
use Rattle.counter.proofs.{ReadDesks.reads_desk, Operations.told_refusal}
use Rattle.counter.proofs.server.serve.Goals as goal

pub returns-in-Ok-clause-served : goal.returns-in-Ok-clause-served
returns-in-Ok-clause-served g c =
    let files = c.in_ok-policy.field-0 in
    let read = c.in_ok-policy.ensures in
    let moved = rw c.in_ok-policy.ensures.algorithm at c.in-Ok.ensures.moved in
    on_ok_weaker c.answer_of.result
    (λ done. record {
      read = reads_desk _ c.args.words.now.desk files read.meant read.identity read.alone read.signs;
      served = rw done at moved;
    })
    (told_done c.in-Ok.done c.answer_of.result c.answer_of.ensures)

pub returns-in-Ok-clause-stopped : goal.returns-in-Ok-clause-stopped
returns-in-Ok-clause-stopped g c =
    let files = c.in_ok-policy.field-0 in
    let read = c.in_ok-policy.ensures in
    λ failed.
    let stopped = told_failed c.in-Ok.done c.answer_of.result c.answer_of.ensures failed in
    record {
      read = reads_desk _ c.args.words.now.desk files read.meant read.identity read.alone read.signs;
      served = rw (stopped, c.in_ok-policy.ensures.algorithm) at c.in-Ok.ensures.moved;
    }

pub returns-in-Ok-clause-faults : goal.returns-in-Ok-clause-faults
returns-in-Ok-clause-faults g c =
    IfErr-weaker c.answer_of.result _ _ (λ fault it. inr it)
    (told_refusal fault_of_operation c.in-Ok.done c.answer_of.result _ c.answer_of.ensures c.in-Ok.ensures.answered)

pub returns-clause-stopped : goal.returns-clause-stopped
returns-clause-stopped g c = λ is.
    absurd (start_not_failed {A = Unit {0}} c.in-Err.fault c.in-Err.ensures.refusals (ap Err (sym c.fault_of.ensures) ∙ is))

pub returns-clause-faults : goal.returns-clause-faults
returns-clause-faults g c =
    inr (c.in-Err.fault, start_is_serving c.in-Err.fault c.in-Err.ensures.refusals, c.fault_of.ensures)

pub returns-in_err-policy-clause-stopped : goal.returns-in_err-policy-clause-stopped
returns-in_err-policy-clause-stopped g c =
    let failing = err_from_is_err_and c.from_residual.result c.from_residual.ensures.1 in
    λ is.
    absurd (file_not_failed {A = Unit {0}} c.in_err-policy.field-0.0 c.in_err-policy.ensures.faults
    (cc (failing.1, failing.2, is)))

pub returns-in_err-policy-clause-faults : goal.returns-in_err-policy-clause-faults
returns-in_err-policy-clause-faults g c =
    let failing = err_from_is_err_and c.from_residual.result c.from_residual.ensures.1 in
    rw (failing.1, failing.2) (inl c.in_err-policy.ensures.faults)
