use Rattle.std.proofs.Common.{rules, ◌≤◌, length, Err, ap}
use Rattle.std.proofs.lemmas.Result.{err_from_is_err_and}
use Rattle.cms.specs.Certificate.{IsAlgorithm}
use Rattle.console.specs.Files.{not_read, read_as}
use Rattle.console.proofs.files.read_algorithm.Goals as goal

pub returns-in_err-octets-clause-reads : goal.returns-in_err-octets-clause-reads
returns-in_err-octets-clause-reads g c =
    let failing = err_from_is_err_and c.from_residual.result c.from_residual.ensures.1 in
    rw failing.1 (not_read _ c.in_err-octets.ensures.reads (ap Err failing.2))

pub returns-in_err-from_bytes-clause-reads : goal.returns-in_err-from_bytes-clause-reads
returns-in_err-from_bytes-clause-reads g c =
    let failing = err_from_is_err_and c.from_residual-in_err-from_bytes.result
    c.from_residual-in_err-from_bytes.ensures.1 in
    rw failing.1
    (read_as _ c.in_ok-octets.ensures.reads
    (_, (failing.2, rw c.as_slice.ensures.value at c.in_err-from_bytes.ensures.only)))

pub returns-clause-reads : goal.returns-clause-reads
returns-clause-reads g c =
    let found : (length c.in_ok-from_bytes.field-0 ≤ 256) × IsAlgorithm c.in_ok-from_bytes.field-0 = search rules in
    read_as _ c.in_ok-octets.ensures.reads
    (rw c.as_slice.ensures.value at c.in_ok-from_bytes.ensures.same, found.0, found.1)
