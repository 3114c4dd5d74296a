use Rattle.der.proofs.OidContents.{subidentifiers_of-content, octets-oid_content, some-oid_content, length-oid_content}
use Rattle.der.proofs.OidContents.{same_from_content, oid_of-content, oid_of-some}
use Rattle.der.proofs.{OidTexts.same_from_text, OidOfTexts.oid_of_text-written, OidOfTexts.oid_of_text-some}
use Rattle.der.proofs.oid.oids_have_one_content_and_text.Goals as goal

pub returns : goal.returns
returns c = record {
  read = subidentifiers_of-content;
  octets = octets-oid_content;
  some = some-oid_content;
  few = length-oid_content;
  one_content = same_from_content;
  one_text = same_from_text;
  computed = oid_of-content;
  found = oid_of-some;
  text_computed = oid_of_text-written;
  text_found = oid_of_text-some;
}
