use Rattle.tsp.specs.Request.{sha256_identifier}
use Rattle.tsp.proofs.ObjectIdentifiers.{same_oid, content_is, sha256_is_oid, sha256_content}
use Rattle.tsp.proofs.object_identifier.ObjectIdentifier.sha256.Goals as goal

pub invariant_of-result : goal.invariant_of-result
invariant_of-result c = content_is _ sha256_identifier sha256_is_oid sha256_content
    (c.oids_have_one_content_and_text.ensures.read sha256_identifier)

pub returns : goal.returns
returns c = same_oid _ sha256_identifier sha256_content
    (c.oids_have_one_content_and_text.ensures.read sha256_identifier)
