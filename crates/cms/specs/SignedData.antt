-- A time-stamp token: signed data over a TSTInfo (RFC 5652, RFC 3161 2.4.2, RFC 5816).
use Rattle.std.specs.Prelude.{ℕ, Bool, if◌then◌else◌, List, [], ◌∷◌, ◌++◌}
use Rattle.sha2.specs.Sha256.{sha256}
use Rattle.cms.specs.Grammar.{integer, octet_string, object_identifier, sequence, set, under_zero}
use Rattle.cms.specs.Identity.{IdentityValue}

-- Object identifiers, by subidentifiers: the first stands for the first two arcs, as 42 for 1.2.

-- 1.2.840.113549.1.7.2 (RFC 5652 5.1)
unfoldable pub id_signed_data : List ℕ
id_signed_data = 42 ∷ 840 ∷ 113549 ∷ 1 ∷ 7 ∷ 2 ∷ []

-- 1.2.840.113549.1.9.16.1.4 (RFC 3161 2.4.2)
unfoldable pub id_ct_tst_info : List ℕ
id_ct_tst_info = 42 ∷ 840 ∷ 113549 ∷ 1 ∷ 9 ∷ 16 ∷ 1 ∷ 4 ∷ []

-- 1.2.840.113549.1.9.3 (RFC 5652 11.1)
unfoldable pub id_content_type : List ℕ
id_content_type = 42 ∷ 840 ∷ 113549 ∷ 1 ∷ 9 ∷ 3 ∷ []

-- 1.2.840.113549.1.9.4 (RFC 5652 11.2)
unfoldable pub id_message_digest : List ℕ
id_message_digest = 42 ∷ 840 ∷ 113549 ∷ 1 ∷ 9 ∷ 4 ∷ []

-- 1.2.840.113549.1.9.16.2.47 (RFC 5035 3)
unfoldable pub id_signing_certificate_v2 : List ℕ
id_signing_certificate_v2 = 42 ∷ 840 ∷ 113549 ∷ 1 ∷ 9 ∷ 16 ∷ 2 ∷ 47 ∷ []

-- 2.16.840.1.101.3.4.2.1 (RFC 5754 2.2)
unfoldable pub id_sha256 : List ℕ
id_sha256 = 96 ∷ 840 ∷ 1 ∷ 101 ∷ 3 ∷ 4 ∷ 2 ∷ 1 ∷ []

-- SHA-256 as DigestAlgorithmIdentifier: its parameters are left away (RFC 5652 10.1.1, RFC 5754 2)
unfoldable pub sha256_identifier : List ℕ
sha256_identifier = sequence (object_identifier id_sha256 ∷ [])

-- Attribute: its type, and its one value in a SET (RFC 5652 5.3)
unfoldable pub attribute : List ℕ → List ℕ → List ℕ
attribute attribute_type value = sequence (object_identifier attribute_type ∷ set (value ∷ []) ∷ [])

-- content-type: what is signed is a TSTInfo (RFC 5652 11.1)
unfoldable pub content_type : List ℕ
content_type = attribute id_content_type (object_identifier id_ct_tst_info)

-- message-digest: the digest of the TSTInfo's octets (RFC 5652 11.2)
unfoldable pub message_digest : List ℕ → List ℕ
message_digest tst = attribute id_message_digest (octet_string (sha256 tst))

-- ESSCertIDv2: hashAlgorithm is its default, SHA-256, and so isn't written; issuerSerial is left away (RFC 5035 4)
unfoldable pub ess_cert_id_v2 : List ℕ → List ℕ
ess_cert_id_v2 certificate = sequence (octet_string (sha256 certificate) ∷ [])

-- SigningCertificateV2: the signer's certificate alone, no policies (RFC 5035 3)
unfoldable pub signing_certificate_v2 : List ℕ → List ℕ
signing_certificate_v2 certificate = sequence (sequence (ess_cert_id_v2 certificate ∷ []) ∷ [])

unfoldable pub signing_certificate : List ℕ → List ℕ
signing_certificate certificate = attribute id_signing_certificate_v2 (signing_certificate_v2 certificate)

-- SignedAttributes, in the ascending order of their encodings that DER asks of a SET OF (RFC 5652 5.3, X.690 11.6)
unfoldable pub signed_attributes : IdentityValue → List ℕ → List (List ℕ)
signed_attributes identity tst = content_type ∷ message_digest tst ∷ signing_certificate identity.certificate ∷ []

-- What is signed: the attributes under SET OF's own tag, and not under the [0] that they have in the token (RFC 5652
-- 5.4)
unfoldable pub attribute_text : IdentityValue → List ℕ → List ℕ
attribute_text identity tst = set (signed_attributes identity tst)

-- IssuerAndSerialNumber (RFC 5652 10.2.4)
unfoldable pub issuer_and_serial_number : IdentityValue → List ℕ
issuer_and_serial_number identity = sequence (identity.issuer ∷ identity.serial ∷ [])

-- SignerInfo of version 1: who signs, the digest algorithm, the signed attributes under [0], the signature algorithm
-- and the signature; no unsigned attribute (RFC 5652 5.3)
unfoldable pub signer_info : IdentityValue → List ℕ → List ℕ → List ℕ → List ℕ
signer_info identity algorithm tst signature =
    sequence (integer 1
    ∷ issuer_and_serial_number identity
    ∷ sha256_identifier
    ∷ under_zero (signed_attributes identity tst)
    ∷ algorithm
    ∷ octet_string signature
    ∷ [])

-- EncapsulatedContentInfo: the TSTInfo's octets in an OCTET STRING (RFC 5652 5.2)
unfoldable pub encapsulated_content_info : List ℕ → List ℕ
encapsulated_content_info tst =
    sequence (object_identifier id_ct_tst_info
    ∷ under_zero (octet_string tst ∷ [])
    ∷ [])

-- the certificates of SignedData, a SET OF in ascending order under [0], left away where none is asked for (RFC 5652
-- 5.1, X.690 11.6, RFC 3161 2.4.1 on certReq)
unfoldable pub certificates : Bool → IdentityValue → List (List ℕ)
certificates with_certificate identity = if with_certificate then under_zero (identity.certificates ∷ []) ∷ [] else []

-- SignedData of version 3, since its content isn't plain data (RFC 5652 5.1)
unfoldable pub signed_data : IdentityValue → List ℕ → List ℕ → List ℕ → Bool → List ℕ
signed_data identity algorithm tst signature with_certificate =
    sequence (integer 3
    ∷ set (sha256_identifier ∷ [])
    ∷ encapsulated_content_info tst
    ∷ (certificates with_certificate identity
    ++ (set (signer_info identity algorithm tst signature ∷ [])
    ∷ [])))

-- ContentInfo over signed data (RFC 5652 3)
unfoldable pub content_info : List ℕ → List ℕ
content_info content =
    sequence (object_identifier id_signed_data
    ∷ under_zero (content ∷ [])
    ∷ [])

-- a time-stamp token: of which identity, under which algorithm, over which TSTInfo, with which signature, and whether
-- with the certificates
unfoldable pub token : IdentityValue → List ℕ → List ℕ → List ℕ → Bool → List ℕ
token identity algorithm tst signature with_certificate =
    content_info (signed_data identity algorithm tst signature with_certificate)
