use Rattle.std.proofs.{Common.Err, Common.refl, Common.ap, lemmas.Result.err_from_is_err_and}
use Rattle.console.specs.Files.{of_no_certificate, chain_not_read, chain_read}
use Rattle.console.proofs.files.read_chain.Goals as goal

pub returns-in_err-from_certificate-clause-reads : goal.returns-in_err-from_certificate-clause-reads
returns-in_err-from_certificate-clause-reads g c =
    let failing = err_from_is_err_and c.from_residual.result c.from_residual.ensures.1 in
    rw (c.in-Some.is, failing.1)
    (of_no_certificate _ refl _ (_, (failing.2, c.in_err-from_certificate.ensures.refusals)) refl)

pub returns-in_err-read_beginning-clause-reads : goal.returns-in_err-read_beginning-clause-reads
returns-in_err-read_beginning-clause-reads g c =
    let failing = err_from_is_err_and c.from_residual-in_err-read_beginning.result
    c.from_residual-in_err-read_beginning.ensures.1 in
    let found = c.in_ok-from_certificate.ensures.found in
    rw (c.in-Some.is, failing.1)
    (chain_not_read _ refl found.0 found.1.0 _ c.in_err-read_beginning.ensures.reads (ap Err failing.2))

pub returns-clause-reads : goal.returns-clause-reads
returns-clause-reads g c =
    let found = c.in_ok-from_certificate.ensures.found in
    rw c.in-Some.is (chain_read _ refl found.0 found.1.0 _ c.in_ok-read_beginning.ensures.reads refl)
