use Rattle.std.proofs.{Common.refl, lemmas.Result.err_from_is_err_and}
use Rattle.counter.proofs.files.read_signing.Goals as goal

pub returns-in_ok-read_signer-in-Key-clause-found : goal.returns-in_ok-read_signer-in-Key-clause-found
returns-in_ok-read_signer-in-Key-clause-found g c =
    let read = c.in_ok-read_signer-in-Key.ensures in
    rw c.in-Key.is (read.reads, read.some, read.few)

pub returns-in_ok-algorithm-in-Session-clause-found : goal.returns-in_ok-algorithm-in-Session-clause-found
returns-in_ok-algorithm-in-Session-clause-found g c =
    let read = c.in_ok-algorithm-in-Session.ensures in
    rw c.in-Session.is (refl, read.reads, read.found.0, read.found.1)

pub returns-in_err-read_signer-in-Key-clause-refused : goal.returns-in_err-read_signer-in-Key-clause-refused
returns-in_err-read_signer-in-Key-clause-refused g c =
    let failing = err_from_is_err_and c.from_residual.result c.from_residual.ensures.1 in
    rw (c.in-Key.is, failing.1, failing.2) c.in_err-read_signer-in-Key.ensures.reads

pub returns-in_err-algorithm-in-Session-clause-refused : goal.returns-in_err-algorithm-in-Session-clause-refused
returns-in_err-algorithm-in-Session-clause-refused g c =
    let failing = err_from_is_err_and c.from_residual-in_err-algorithm-in-Session.result
    c.from_residual-in_err-algorithm-in-Session.ensures.1 in
    rw (c.in-Session.is, failing.1, failing.2) c.in_err-algorithm-in-Session.ensures.reads
