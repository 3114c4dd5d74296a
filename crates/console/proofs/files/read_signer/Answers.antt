use Rattle.std.proofs.{Common.Err, Common.ap, lemmas.Result.err_from_is_err_and}
use Rattle.console.specs.Files.{not_read, read_as}
use Rattle.console.proofs.files.read_signer.Goals as goal

pub returns-in_err-octets-clause-reads : goal.returns-in_err-octets-clause-reads
returns-in_err-octets-clause-reads g c =
    let failing = err_from_is_err_and c.from_residual.result c.from_residual.ensures.1 in
    rw failing.1 (not_read _ c.in_err-octets.ensures.reads (ap Err failing.2))

pub returns-clause-reads : goal.returns-clause-reads
returns-clause-reads g c =
    read_as _ c.in_ok-octets.ensures.reads (rw c.as_slice.ensures.value at c.key_of.ensures.is)
