use Rattle.std.proofs.{Common.inl, Common.inr, Common.sym, Common.subst, lemmas.Result.err_from_is_err_and}
use Rattle.console.specs.Fault.{IsFileFault}
use Rattle.counter.specs.Files.{of_policy, of_identity, of_signer, of_algorithm}
use Rattle.counter.proofs.files.read_files.Goals as goal

pub returns-in_err-algorithm-clause-faults : goal.returns-in_err-algorithm-clause-faults
returns-in_err-algorithm-clause-faults g c =
    let failing =
    err_from_is_err_and c.from_residual-in_err-algorithm.result c.from_residual-in_err-algorithm.ensures.1
    in
    rw failing.1 (inl (inr (inr (_, failing.2))))

pub returns-in_err-signing-clause-faults : goal.returns-in_err-signing-clause-faults
returns-in_err-signing-clause-faults g c =
    let failing = err_from_is_err_and c.from_residual-in_err-signing.result c.from_residual-in_err-signing.ensures.1 in
    rw failing.1 (inl (subst IsFileFault (sym failing.2) c.in_err-signing.ensures.faults))

pub returns-in_err-identity-clause-faults : goal.returns-in_err-identity-clause-faults
returns-in_err-identity-clause-faults g c =
    let failing = err_from_is_err_and c.from_residual-in_err-identity.result c.from_residual-in_err-identity.ensures.1 in
    rw failing.1 (inl (subst IsFileFault (sym failing.2) c.in_err-identity.ensures.faults))

pub returns-in_err-policy-clause-first : goal.returns-in_err-policy-clause-first
returns-in_err-policy-clause-first g c =
    let failing = err_from_is_err_and c.from_residual.result c.from_residual.ensures.1 in
    rw (failing.1, failing.2) (of_policy c.in_err-policy.ensures.reads)

pub returns-in_err-identity-clause-first : goal.returns-in_err-identity-clause-first
returns-in_err-identity-clause-first g c =
    let failing = err_from_is_err_and c.from_residual-in_err-identity.result c.from_residual-in_err-identity.ensures.1 in
    rw (failing.1, failing.2) (of_identity _ c.in_ok-policy.ensures.reads c.in_err-identity.ensures.reads)

pub returns-in_err-signing-clause-first : goal.returns-in_err-signing-clause-first
returns-in_err-signing-clause-first g c =
    let failing = err_from_is_err_and c.from_residual-in_err-signing.result c.from_residual-in_err-signing.ensures.1 in
    rw (failing.1, failing.2)
    (of_signer _ c.in_ok-policy.ensures.reads _ c.in_ok-identity.ensures.reads c.in_err-signing.ensures.refused)

pub returns-in_err-algorithm-clause-first : goal.returns-in_err-algorithm-clause-first
returns-in_err-algorithm-clause-first g c =
    let failing =
    err_from_is_err_and c.from_residual-in_err-algorithm.result c.from_residual-in_err-algorithm.ensures.1
    in
    rw failing.1
    (of_algorithm _ c.in_ok-policy.ensures.reads _ c.in_ok-identity.ensures.reads _ c.in_ok-signing.ensures.found _
    failing.2)
