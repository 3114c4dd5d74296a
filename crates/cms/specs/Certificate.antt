-- A certificate, as far as it is read: whose it is, and under which number (RFC 5280 4.1).
use Rattle.std.specs.Prelude.{◌≡◌, ℕ, ◌≤◌, true, List, [], ◌∷◌, length, Option, Some, None}
use Rattle.der.specs.Node.{Node, primitive, constructed, Nodes, no_nodes, node, encoding, levels, IsFormed, IsLawful}
use Rattle.der.specs.{Number.is_shortest, ObjectIdentifier.IsOid, ObjectIdentifier.oid_content}
use Rattle.cms.specs.{Grammar.joined, SetOf.ascending, Identity.IdentityValue}

-- The parts of a certificate: what is in its version, if one stands, its serial number's contents octets, what is in
-- its four SEQUENCEs, the further members of its TBSCertificate, and its own further members.
pub record CertificateParts : Type 0 where
  pub version : Option Nodes
  pub serial : List ℕ
  pub signature : Nodes
  pub issuer : Nodes
  pub validity : Nodes
  pub subject : Nodes
  pub further : Nodes
  pub after : Nodes

-- version: under [0], where it stands
abbrev pub with_version : Option Nodes → Nodes → Nodes
with_version None others = others
with_version (Some version) others = node (constructed 0xa0 version) others

-- CertificateSerialNumber: an INTEGER
abbrev pub serial_number : CertificateParts → Node
serial_number p = primitive 0x02 p.serial

-- issuer: a Name, which is a SEQUENCE
abbrev pub issuer_name : CertificateParts → Node
issuer_name p = constructed 0x30 p.issuer

-- subject: a Name, which is a SEQUENCE
abbrev pub subject_name : CertificateParts → Node
subject_name p = constructed 0x30 p.subject

-- the members from signature on
abbrev pub after_serial : CertificateParts → Nodes
after_serial p =
    node (constructed 0x30 p.signature)
    (node (issuer_name p)
    (node (constructed 0x30 p.validity)
    (node (subject_name p)
    p.further)))

-- the members from validity on
abbrev pub after_issuer : CertificateParts → Nodes
after_issuer p =
    node (constructed 0x30 p.validity)
    (node (subject_name p)
    p.further)

-- TBSCertificate
abbrev pub tbs_certificate : CertificateParts → Node
tbs_certificate p =
    constructed 0x30 (with_version p.version
    (node (serial_number p)
    (after_serial p)))

-- Certificate
abbrev pub certificate : CertificateParts → Node
certificate p =
    constructed 0x30 (node (tbs_certificate p)
    p.after)

-- The octets are the certificate of these parts, a lawful value, whose serial number is in the shortest form. The
-- subject has at most 29 levels, so that it can be the name in a TSTInfo, which has three more and may have 32.
pub record IsCertificate (octets : List ℕ) (p : CertificateParts) : Type 0 where
  pub lawful : IsLawful (certificate p)
  pub encoded : octets ≡ encoding (certificate p)
  pub shortest : is_shortest p.serial ≡ true
  pub shallow : levels (subject_name p) ≤ 29

-- the identity of a signer's certificate of these parts, with further certificates
abbrev pub identity_with : List ℕ → List (List ℕ) → CertificateParts → IdentityValue
identity_with signer further p = record {
  certificate = signer;
  chain = joined further;
  certificates = joined (ascending (signer ∷ further));
  issuer = encoding (issuer_name p);
  serial = encoding (serial_number p);
  subject = encoding (subject_name p);
}

-- of the signer's certificate alone
abbrev pub identity_of : List ℕ → CertificateParts → IdentityValue
identity_of signer p = identity_with signer [] p

-- the value is the subject of the certificate that the octets are
pub record IsSubject (octets : List ℕ) (name : Node) : Type 0 where
  pub parts : CertificateParts
  pub is : IsCertificate octets parts
  pub same : name ≡ subject_name parts

-- what holds of the subject of an identity
pub record IsSubjectName (name : Node) : Type 0 where
  pub components : Nodes
  pub sequence : name ≡ constructed 0x30 components
  pub formed : IsFormed name
  pub shallow : levels name ≤ 29
  pub short : length (encoding name) ≤ 16384

-- the parameters of an AlgorithmIdentifier, where there are any
abbrev pub optional : Option Node → Nodes
optional None = no_nodes
optional (Some value) = node value no_nodes

-- AlgorithmIdentifier: an object identifier, and parameters of any kind where there are any (RFC 5280 4.1.1.2)
abbrev pub algorithm_identifier : List ℕ → Option Node → Node
algorithm_identifier subidentifiers parameters =
    constructed 0x30 (node (primitive 0x06 (oid_content subidentifiers)) (optional parameters))

-- The octets are an AlgorithmIdentifier, a lawful value.
pub record IsAlgorithm (octets : List ℕ) : Type 0 where
  pub subidentifiers : List ℕ
  pub parameters : Option Node
  pub oid : IsOid subidentifiers
  pub lawful : IsLawful (algorithm_identifier subidentifiers parameters)
  pub encoded : octets ≡ encoding (algorithm_identifier subidentifiers parameters)
