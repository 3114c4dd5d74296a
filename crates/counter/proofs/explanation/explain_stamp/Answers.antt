use Rattle.std.proofs.{Common.◌∙◌, Common.Err, Common.ap, Common.inr, Common.refl, lemmas.Result.err_from_is_err_and}
use Rattle.console.specs.declared.fault.Fault.TheVariants.{Input}
use Rattle.counter.proofs.explanation.explain_stamp.Goals as goal

pub returns-clause-explained : goal.returns-clause-explained
returns-clause-explained g c =
    (c.in_ok-text.text.items, c.in_ok-text.ensures.explained, rw c.as_slice.ensures.value at c.in_ok-write_answer.ensures.written)

pub returns-in_err-write_answer-clause-kept : goal.returns-in_err-write_answer-clause-kept
returns-in_err-write_answer-clause-kept g c =
    let failing = err_from_is_err_and c.from_residual-in_err-write_answer.result
    c.from_residual-in_err-write_answer.ensures.1 in
    let text = c.in_ok-text.text.items in
    rw failing.1
    (inr (
      failing.2 ∙ ap Input c.in_err-write_answer.ensures.faults,
      (text, c.in_ok-text.ensures.explained, rw c.as_slice.ensures.value at c.in_err-write_answer.ensures.begun),
    ))
