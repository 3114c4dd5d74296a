use Rattle.std.proofs.Common.{◌≤◌, length, sym, subst, arith}
use Rattle.der.{specs.Node.encoding, proofs.Octets.AreOctets-at}
use Rattle.tsp.specs.Request.{Spells, time_stamp_req, unstated}
use Rattle.tsp.proofs.TstLawful.{sha256_is_spelled}
use Rattle.tsp.proofs.request.Request.of_sha256.Goals as goal

pub returns-clause-spelled : goal.returns-clause-spelled
returns-clause-spelled c =
    let law = sha256_is_spelled c.args.digest.now c.args.cert_req (AreOctets-at c.args.digest.now c.fits-digest)
    (omega (arith, c.told-digest)) in
    subst (λ r. Spells (encoding (time_stamp_req unstated r)) r) (sym c.sha256_parts.ensures) law.0

pub returns-clause-short : goal.returns-clause-short
returns-clause-short c =
    let law = sha256_is_spelled c.args.digest.now c.args.cert_req (AreOctets-at c.args.digest.now c.fits-digest)
    (omega (arith, c.told-digest)) in
    subst (λ r. length (encoding (time_stamp_req unstated r)) ≤ 65536) (sym c.sha256_parts.ensures) law.1
