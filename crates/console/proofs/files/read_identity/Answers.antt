use Rattle.std.proofs.{Common.Err, Common.ap, lemmas.Result.err_from_is_err_and}
use Rattle.console.specs.Files.{certificate_not_read, chain_refused, identity_read}
use Rattle.console.proofs.files.read_identity.Goals as goal

pub returns-in_err-certificate-clause-reads : goal.returns-in_err-certificate-clause-reads
returns-in_err-certificate-clause-reads g c =
    let failing = err_from_is_err_and c.from_residual.result c.from_residual.ensures.1 in
    rw failing.1 (certificate_not_read _ c.in_err-certificate.ensures.reads (ap Err failing.2))

pub returns-in_err-chain-clause-reads : goal.returns-in_err-chain-clause-reads
returns-in_err-chain-clause-reads g c =
    let failing = err_from_is_err_and c.from_residual-in_err-chain.result c.from_residual-in_err-chain.ensures.1 in
    rw failing.1
    (chain_refused _ c.in_ok-certificate.ensures.reads _
    (rw c.as_slice.ensures.value at c.in_err-chain.ensures.reads) (ap Err failing.2))

pub returns-in_err-from_parts-clause-reads : goal.returns-in_err-from_parts-clause-reads
returns-in_err-from_parts-clause-reads g c =
    let failing = err_from_is_err_and c.from_residual-in_err-from_parts.result
    c.from_residual-in_err-from_parts.ensures.1 in
    let refused = rw (c.as_slice-2.ensures.value, c.as_slice-3.ensures.value) at c.in_err-from_parts.ensures.refusals in
    rw failing.1
    (identity_read _ c.in_ok-certificate.ensures.reads _
    (rw c.as_slice.ensures.value at c.in_ok-chain.ensures.reads) (_, (failing.2, refused)))

pub returns-clause-reads : goal.returns-clause-reads
returns-clause-reads g c =
    identity_read _ c.in_ok-certificate.ensures.reads _
    (rw c.as_slice.ensures.value at c.in_ok-chain.ensures.reads)
    (rw (c.as_slice-2.ensures.value, c.as_slice-3.ensures.value) at c.in_ok-from_parts.ensures.found)
