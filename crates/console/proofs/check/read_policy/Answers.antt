use Rattle.std.proofs.{Common.Err, Common.ap, lemmas.Result.err_from_is_err_and}
use Rattle.console.specs.Files.{text_not_read, text_read}
use Rattle.console.proofs.check.read_policy.Goals as goal

pub returns-in_err-text-clause-reads : goal.returns-in_err-text-clause-reads
returns-in_err-text-clause-reads g c =
    let failing = err_from_is_err_and c.from_residual.result c.from_residual.ensures.1 in
    rw failing.1 (text_not_read _ c.in_err-text.ensures.reads (ap Err failing.2))

pub returns-in_err-from_text-clause-reads : goal.returns-in_err-from_text-clause-reads
returns-in_err-from_text-clause-reads g c =
    let failing = err_from_is_err_and c.from_residual-in_err-from_text.result
    c.from_residual-in_err-from_text.ensures.1 in
    rw failing.1
    (text_read _ c.in_ok-text.ensures.reads (_, (failing.2, rw c.as_str.ensures.value at c.in_err-from_text.ensures)))

pub returns-clause-reads : goal.returns-clause-reads
returns-clause-reads g c =
    text_read _ c.in_ok-text.ensures.reads (rw c.as_str.ensures.value at c.in_ok-from_text.ensures)
