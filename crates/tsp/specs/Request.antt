-- Time-stamp requests, and the octets that spell them (RFC 3161 2.4.1).
use Rattle.std.specs.Prelude.{◌≡◌, ℕ, Bool, false, ℤ, pos, List, [], ◌∷◌, ◌++◌, Option, Some, None, IfSome}
use Rattle.std.specs.List.{AllByRecursion}
use Rattle.der.specs.Node.{Node, primitive, constructed, encoding, IsLawful}
use Rattle.der.specs.{ObjectIdentifier.IsOid, Tree.nodes}
use Rattle.tsp.specs.Grammar.{sequence, integer, object_identifier, octet_string, optional, false_by_default}

-- what was hashed is known by its digest: MessageImprint, with the algorithm of an AlgorithmIdentifier and its
-- parameters
pub record ImprintValue : Type 0 where
  pub algorithm : List ℕ
  pub parameters : Option Node
  pub hash : List ℕ

-- Extension (RFC 5280 4.1): extnID, critical, extnValue
pub record ExtensionValue : Type 0 where
  pub identifier : List ℕ
  pub critical : Bool
  pub value : List ℕ

-- TimeStampReq: object identifiers by their subidentifiers, version and nonce of any size
pub record RequestValue : Type 0 where
  pub version : ℤ
  pub imprint : ImprintValue
  pub policy : Option (List ℕ)
  pub nonce : Option ℤ
  pub cert_req : Bool
  pub extensions : List ExtensionValue

-- each object identifier is one
pub record IsRequest (r : RequestValue) : Type 0 where
  pub algorithm : IsOid r.imprint.algorithm
  pub policy : IfSome r.policy IsOid
  pub extensions : AllByRecursion (λ extension. IsOid extension.identifier) r.extensions

-- which FALSEs are stated, of certReq and of each extension's critical; where the list ends, none is
pub record Stated : Type 0 where
  pub cert_req : Bool
  pub critical : List Bool

-- AlgorithmIdentifier: the algorithm, and its parameters where there are some
abbrev pub algorithm_identifier : ImprintValue → Node
algorithm_identifier imprint =
    sequence (object_identifier imprint.algorithm ∷ optional (λ parameters. parameters) imprint.parameters)

-- MessageImprint: the AlgorithmIdentifier, and the hash
abbrev pub message_imprint : ImprintValue → Node
message_imprint imprint = sequence (algorithm_identifier imprint ∷ octet_string imprint.hash ∷ [])

-- an Extension, whose FALSE is stated or left away
abbrev pub extension : Bool → ExtensionValue → Node
extension stated e =
    sequence (object_identifier e.identifier ∷ (false_by_default stated e.critical ++ (octet_string e.value ∷ [])))

abbrev pub extension_nodes : List Bool → List ExtensionValue → List Node
extension_nodes stated [] = []
extension_nodes [] (e ∷ es) = extension false e ∷ extension_nodes [] es
extension_nodes (stated ∷ others) (e ∷ es) = extension stated e ∷ extension_nodes others es

-- Extensions under an implicit tag: at least one, and left away where there is none
abbrev pub extensions_under : ℕ → List Bool → List ExtensionValue → List Node
extensions_under tag stated [] = []
extensions_under tag stated (e ∷ es) = constructed tag (nodes (extension_nodes stated (e ∷ es))) ∷ []

-- TimeStampReq, whose extensions are under [0]
abbrev pub time_stamp_req : Stated → RequestValue → Node
time_stamp_req stated r =
    sequence (
    integer r.version
    ∷ message_imprint r.imprint
    ∷ (optional object_identifier r.policy
    ++ (optional integer r.nonce
    ++ (false_by_default stated.cert_req r.cert_req
    ++ extensions_under 0xa0 stated.critical r.extensions))))

-- no FALSE is stated
abbrev pub unstated : Stated
unstated = record { cert_req = false; critical = [] }

-- The octets are the encoding of a lawful value that the grammar gives for the request. Which FALSEs are stated is
-- free, and nothing else.
pub record Spells (octets : List ℕ) (r : RequestValue) : Type 0 where
  pub proper : IsRequest r
  pub stated : Stated
  pub lawful : IsLawful (time_stamp_req stated r)
  pub spelled : octets ≡ encoding (time_stamp_req stated r)

-- id-sha256 (RFC 5754 2.2), 2.16.840.1.101.3.4.2.1, by its subidentifiers
abbrev pub sha256_identifier : List ℕ
sha256_identifier = 96 ∷ 840 ∷ 1 ∷ 101 ∷ 3 ∷ 4 ∷ 2 ∷ 1 ∷ []

-- the request of version 1 for a SHA-256 digest, with NULL parameters, without policy, nonce and extensions
abbrev pub sha256_request : List ℕ → Bool → RequestValue
sha256_request digest cert_req = record {
  version = pos 1;
  imprint = record { algorithm = sha256_identifier; parameters = Some (primitive 0x05 []); hash = digest };
  policy = None;
  nonce = None;
  cert_req = cert_req;
  extensions = [];
}
