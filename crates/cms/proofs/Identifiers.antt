-- The contents octets of the object identifiers and versions in a token.
use Rattle.std.proofs.Common.{◌≡◌, pos, [], ◌∷◌, refl}
use Rattle.der.specs.{Number.number_content, ObjectIdentifier.oid_content, ObjectIdentifier.subidentifier_octets}
use Rattle.cms.specs.SignedData.{id_signed_data, id_ct_tst_info, id_content_type, id_message_digest}
use Rattle.cms.specs.SignedData.{id_signing_certificate_v2, id_sha256}

pub signed_data_content : oid_content id_signed_data ≡ 42 ∷ 134 ∷ 72 ∷ 134 ∷ 247 ∷ 13 ∷ 1 ∷ 7 ∷ 2 ∷ []
unfolding id_signed_data subidentifier_octets
signed_data_content = refl

pub tst_info_content : oid_content id_ct_tst_info ≡ 42 ∷ 134 ∷ 72 ∷ 134 ∷ 247 ∷ 13 ∷ 1 ∷ 9 ∷ 16 ∷ 1 ∷ 4 ∷ []
unfolding id_ct_tst_info subidentifier_octets
tst_info_content = refl

pub content_type_content : oid_content id_content_type ≡ 42 ∷ 134 ∷ 72 ∷ 134 ∷ 247 ∷ 13 ∷ 1 ∷ 9 ∷ 3 ∷ []
unfolding id_content_type subidentifier_octets
content_type_content = refl

pub message_digest_content : oid_content id_message_digest ≡ 42 ∷ 134 ∷ 72 ∷ 134 ∷ 247 ∷ 13 ∷ 1 ∷ 9 ∷ 4 ∷ []
unfolding id_message_digest subidentifier_octets
message_digest_content = refl

pub signing_certificate_content : oid_content id_signing_certificate_v2 ≡ 42 ∷ 134 ∷ 72 ∷ 134 ∷ 247 ∷ 13 ∷ 1 ∷ 9 ∷ 16
    ∷ 2 ∷ 47 ∷ []
unfolding id_signing_certificate_v2 subidentifier_octets
signing_certificate_content = refl

pub sha256_content : oid_content id_sha256 ≡ 96 ∷ 134 ∷ 72 ∷ 1 ∷ 101 ∷ 3 ∷ 4 ∷ 2 ∷ 1 ∷ []
unfolding id_sha256 subidentifier_octets
sha256_content = refl

pub one_content : number_content (pos 1) ≡ 1 ∷ []
unfolding number_content
one_content = refl

pub three_content : number_content (pos 3) ≡ 3 ∷ []
unfolding number_content
three_content = refl
