-- What is written for each type of a token is its definition.
use Rattle.std.proofs.Common.{◌≡◌, ℕ, Bool, true, false, List, [], ◌∷◌, ◌++◌, refl, ap, sym, ◌∙◌, append_assoc}
use Rattle.std.proofs.lemmas.{List.append-nil, Result.IfOk-weaker}
use Rattle.sha2.specs.Sha256.{sha256}
use Rattle.der.specs.Node.{element}
use Rattle.cms.specs.Grammar.{joined, integer, octet_string, object_identifier, sequence, set, under_zero}
use Rattle.cms.specs.Identity.{IdentityValue}
use Rattle.cms.specs.SignedData.{id_signed_data, id_ct_tst_info, id_content_type, id_message_digest}
use Rattle.cms.specs.SignedData.{id_signing_certificate_v2, id_sha256, sha256_identifier, attribute, content_type}
use Rattle.cms.specs.SignedData.{message_digest, ess_cert_id_v2, signing_certificate_v2, signing_certificate}
use Rattle.cms.specs.SignedData.{signed_attributes, attribute_text, issuer_and_serial_number, signer_info}
use Rattle.cms.specs.SignedData.{encapsulated_content_info, certificates, signed_data, content_info, token}
use Rattle.cms.proofs.Identifiers.{signed_data_content, tst_info_content, content_type_content, message_digest_content}
use Rattle.cms.proofs.Identifiers.{signing_certificate_content, sha256_content, one_content, three_content}
use Rattle.cms.proofs.Members.{under, identified, joined_one, joined_two, joined_three, joined_six}

-- the contents octets of the object identifiers
abbrev pub signed_data_octets : List ℕ
signed_data_octets = 42 ∷ 134 ∷ 72 ∷ 134 ∷ 247 ∷ 13 ∷ 1 ∷ 7 ∷ 2 ∷ []

abbrev pub tst_info_octets : List ℕ
tst_info_octets = 42 ∷ 134 ∷ 72 ∷ 134 ∷ 247 ∷ 13 ∷ 1 ∷ 9 ∷ 16 ∷ 1 ∷ 4 ∷ []

abbrev pub content_type_octets : List ℕ
content_type_octets = 42 ∷ 134 ∷ 72 ∷ 134 ∷ 247 ∷ 13 ∷ 1 ∷ 9 ∷ 3 ∷ []

abbrev pub message_digest_octets : List ℕ
message_digest_octets = 42 ∷ 134 ∷ 72 ∷ 134 ∷ 247 ∷ 13 ∷ 1 ∷ 9 ∷ 4 ∷ []

abbrev pub signing_certificate_octets : List ℕ
signing_certificate_octets = 42 ∷ 134 ∷ 72 ∷ 134 ∷ 247 ∷ 13 ∷ 1 ∷ 9 ∷ 16 ∷ 2 ∷ 47 ∷ []

abbrev pub sha256_octets : List ℕ
sha256_octets = 96 ∷ 134 ∷ 72 ∷ 1 ∷ 101 ∷ 3 ∷ 4 ∷ 2 ∷ 1 ∷ []

pub content_info_text : (content : List ℕ) → element 48 (([] ++ element 6 signed_data_octets) ++ element 160 content)
    ≡ content_info content
unfolding content_info
content_info_text content =
    ap (element 48) (joined_two _ _ (object_identifier id_signed_data) (under_zero (content ∷ []))
    (identified signed_data_octets id_signed_data signed_data_content) (under 160 content content refl))

pub encapsulated_text : (tst : List ℕ) → element 48 (([] ++ element 6 tst_info_octets) ++ element 160 (element 4 tst))
    ≡ encapsulated_content_info tst
unfolding encapsulated_content_info
encapsulated_text tst =
    ap (element 48) (joined_two _ _ (object_identifier id_ct_tst_info) (under_zero (octet_string tst ∷ []))
    (identified tst_info_octets id_ct_tst_info tst_info_content) (under 160 (element 4 tst) (element 4 tst) refl))

pub digest_algorithm_text : element 48 (element 6 sha256_octets) ≡ sha256_identifier
unfolding sha256_identifier
digest_algorithm_text =
    under 48 (element 6 sha256_octets) (object_identifier id_sha256) (identified sha256_octets id_sha256 sha256_content)

pub issuer_and_serial_text : (identity : IdentityValue) → element 48 (([] ++ identity.issuer) ++ identity.serial)
    ≡ issuer_and_serial_number identity
unfolding issuer_and_serial_number
issuer_and_serial_text identity =
    ap (element 48) (joined_two identity.issuer identity.serial identity.issuer identity.serial refl refl)

attribute_text_of : (octets kind value : List ℕ) → element 6 octets ≡ object_identifier kind
    → element 48 (([] ++ element 6 octets) ++ element 49 value) ≡ attribute kind value
unfolding attribute
attribute_text_of octets kind value e =
    ap (element 48) (joined_two _ _ (object_identifier kind) (set (value ∷ [])) e (under 49 value value refl))

content_type_text : element 48 (([] ++ element 6 content_type_octets) ++ element 49 (element 6 tst_info_octets))
    ≡ content_type
unfolding content_type
content_type_text = attribute_text_of content_type_octets id_content_type (element 6 tst_info_octets)
    (identified content_type_octets id_content_type content_type_content)
    ∙ ap (attribute id_content_type) (identified tst_info_octets id_ct_tst_info tst_info_content)

message_digest_text : (tst : List ℕ)
    → element 48 (([] ++ element 6 message_digest_octets) ++ element 49 (element 4 (sha256 tst))) ≡ message_digest tst
unfolding message_digest
message_digest_text tst =
    attribute_text_of message_digest_octets id_message_digest (element 4 (sha256 tst))
    (identified message_digest_octets id_message_digest message_digest_content)

pub signing_certificate_v2_text : (certificate : List ℕ)
    → element 48 (element 48 (element 48 (element 4 (sha256 certificate)))) ≡ signing_certificate_v2 certificate
unfolding signing_certificate_v2 ess_cert_id_v2
signing_certificate_v2_text certificate =
    under 48 _ (sequence (ess_cert_id_v2 certificate ∷ []))
    (under 48 _ (ess_cert_id_v2 certificate)
    (under 48 (element 4 (sha256 certificate)) (octet_string (sha256 certificate)) refl))

signing_certificate_text : (certificate : List ℕ)
    → element 48 (([] ++ element 6 signing_certificate_octets) ++ element 49 (signing_certificate_v2 certificate))
    ≡ signing_certificate certificate
unfolding signing_certificate
signing_certificate_text certificate =
    attribute_text_of signing_certificate_octets id_signing_certificate_v2 (signing_certificate_v2 certificate)
    (identified signing_certificate_octets id_signing_certificate_v2 signing_certificate_content)

pub attributes_text : (identity : IdentityValue) (tst : List ℕ)
    → (([] ++ element 48 (([] ++ element 6 content_type_octets) ++ element 49 (element 6 tst_info_octets)))
    ++ element 48 (([] ++ element 6 message_digest_octets) ++ element 49 (element 4 (sha256 tst))))
    ++ element 48 (([] ++ element 6 signing_certificate_octets)
    ++ element 49 (signing_certificate_v2 identity.certificate))
    ≡ joined (signed_attributes identity tst)
unfolding signed_attributes
attributes_text identity tst =
    joined_three _ _ _ content_type (message_digest tst) (signing_certificate identity.certificate)
    content_type_text (message_digest_text tst) (signing_certificate_text identity.certificate)

pub attribute_text_text : (identity : IdentityValue) (tst : List ℕ)
    → element 49 (joined (signed_attributes identity tst)) ≡ attribute_text identity tst
unfolding attribute_text
attribute_text_text identity tst = refl

pub signer_info_text : (identity : IdentityValue) (algorithm tst signature : List ℕ)
    → element 48 (((((([] ++ element 2 (1 ∷ [])) ++ issuer_and_serial_number identity) ++ sha256_identifier)
    ++ element 160 (joined (signed_attributes identity tst)))
    ++ algorithm) ++ element 4 signature) ≡ signer_info identity algorithm tst signature
unfolding signer_info
signer_info_text identity algorithm tst signature =
    ap (element 48) (joined_six _ _ _ _ _ _ (integer 1) (issuer_and_serial_number identity) sha256_identifier
    (under_zero (signed_attributes identity tst)) algorithm (octet_string signature) (ap (element 2) (sym one_content))
    refl refl refl refl refl)

pub joined-append : (xs ys : List (List ℕ)) → joined (xs ++ ys) ≡ joined xs ++ joined ys
joined-append [] ys = refl
joined-append (x ∷ xs) ys =
    ap (λ octets. x ++ octets) (joined-append xs ys) ∙ sym (append_assoc x (joined xs) (joined ys))

pub certificates_text : (identity : IdentityValue)
    → joined (certificates true identity) ≡ element 160 identity.certificates
unfolding certificates
certificates_text identity =
    append-nil (under_zero (identity.certificates ∷ [])) ∙ ap (element 160) (append-nil identity.certificates)

pub no_certificates_text : (identity : IdentityValue) → joined (certificates false identity) ≡ []
unfolding certificates
no_certificates_text identity = refl

regroup : (a b c d e : List ℕ) → (((([] ++ a) ++ b) ++ c) ++ d) ++ e ≡ a ++ (b ++ (c ++ (d ++ e)))
regroup a b c d e = simp append_assoc

-- the members of SignedData, by what each was written as
members_of : (identity : IdentityValue) (content signer : List ℕ) (with_certificate : Bool)
    → (((([] ++ element 2 (3 ∷ [])) ++ element 49 sha256_identifier) ++ content)
    ++ joined (certificates with_certificate identity)) ++ element 49 signer
    ≡ joined (integer 3 ∷ set (sha256_identifier ∷ []) ∷ content
    ∷ (certificates with_certificate identity ++ (set (signer ∷ []) ∷ [])))
members_of identity content signer with_certificate =
    let three : element 2 (3 ∷ []) ≡ integer 3 = ap (element 2) (sym three_content) in
    let algorithms : element 49 sha256_identifier ≡ set (sha256_identifier ∷ []) =
    under 49 sha256_identifier sha256_identifier refl in
    let last : element 49 signer ≡ joined (set (signer ∷ []) ∷ []) =
    joined_one (element 49 signer) (set (signer ∷ [])) (under 49 signer signer refl) in
    let end = joined-append (certificates with_certificate identity) (set (signer ∷ []) ∷ []) in
    regroup (element 2 (3 ∷ [])) (element 49 sha256_identifier) content
    (joined (certificates with_certificate identity)) (element 49 signer)
    ∙ ap (λ x. x ++ (element 49 sha256_identifier
    ++ (content ++ (joined (certificates with_certificate identity) ++ element 49 signer)))) three
    ∙ ap (λ x. integer 3 ++ (x ++ (content ++ (joined (certificates with_certificate identity) ++ element 49 signer))))
    algorithms
    ∙ ap (λ x. integer 3 ++ (set (sha256_identifier ∷ []) ++ (content ++ x)))
    (ap (λ x. joined (certificates with_certificate identity) ++ x) last ∙ sym end)

pub signed_data_text : (identity : IdentityValue) (algorithm tst signature : List ℕ) (with_certificate : Bool)
    → element 48 ((((([] ++ element 2 (3 ∷ [])) ++ element 49 sha256_identifier) ++ encapsulated_content_info tst)
    ++ joined (certificates with_certificate identity))
    ++ element 49 (signer_info identity algorithm tst signature))
    ≡ signed_data identity algorithm tst signature with_certificate
unfolding signed_data
signed_data_text identity algorithm tst signature with_certificate =
    ap (element 48) (members_of identity (encapsulated_content_info tst) (signer_info identity algorithm tst signature)
    with_certificate)

pub token_text : (identity : IdentityValue) (algorithm tst signature : List ℕ) (with_certificate : Bool)
    → content_info (signed_data identity algorithm tst signature with_certificate)
    ≡ token identity algorithm tst signature with_certificate
unfolding token
token_text identity algorithm tst signature with_certificate = refl

pub ruleset text_laws = (append-nil, IfOk-weaker)
