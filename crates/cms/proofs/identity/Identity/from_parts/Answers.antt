use Rattle.std.proofs.Common.{inl, refl}
use Rattle.cms.{specs.Chain.IsShortCertificate, proofs.Chains.first_fault}
use Rattle.cms.proofs.identity.Identity.from_parts.Goals as goal

pub returns-in_err-certificates-clause-refusals : goal.returns-in_err-certificates-clause-refusals
returns-in_err-certificates-clause-refusals c =
    let (p, found) = c.in_ok-issuer.ensures.found in
    let short : IsShortCertificate c.args.certificate.now = record { parts = p; is = found.0; short = found.1 } in
    first_fault c.args.certificate.now c.args.chain.now c.from_residual-in_err-certificates.result
    c.in_err-certificates.field-0.0 c.from_residual-in_err-certificates.ensures.1 short
    c.in_err-certificates.ensures.err

pub returns-in_err-join_ascending-clause-refusals : goal.returns-in_err-join_ascending-clause-refusals
returns-in_err-join_ascending-clause-refusals c =
    let (p, found) = c.in_ok-issuer.ensures.found in
    let short : IsShortCertificate c.args.certificate.now = record { parts = p; is = found.0; short = found.1 } in
    first_fault c.args.certificate.now c.args.chain.now c.from_residual-in_err-join_ascending.result _
    c.from_residual-in_err-join_ascending.ensures.1 short (inl refl)
