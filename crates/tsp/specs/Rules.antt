-- The rules of a written policy that speak of a request and of hash algorithms alone, each a sentence that stands by
-- itself, and the first of them that fails.
use Rattle.std.specs.Prelude.{◌≡◌, ℕ, ◌<◌, ◌≤◌, ◌⊎◌, pos, List, [], Some, None, length, Contains}
use Rattle.der.specs.Node.{primitive}
use Rattle.tsp.specs.{Request.RequestValue, Request.Spells, Rejection.number_of}
use Rattle.tsp.specs.declared.rule.Rule.{Rule, TheVariants.Spelling}

-- a known hash algorithm, and how many octets its hashes have
pub record AlgorithmValue : Type 0 where
  pub identifier : List ℕ
  pub hash_length : ℕ

-- the octets are a request, at most 65,536 of them
abbrev pub IsSpelled : List ℕ → Type 0
IsSpelled octets = ((r : RequestValue) × Spells octets r) × (length octets ≤ 65536)

abbrev pub HasVersionOne : RequestValue → Type 0
HasVersionOne r = r.version ≡ pos 1

-- the algorithm's parameters are absent or NULL
abbrev pub HasPlainParameters : RequestValue → Type 0
HasPlainParameters r = (r.imprint.parameters ≡ None) ⊎ (r.imprint.parameters ≡ Some (primitive 0x05 []))

-- an algorithm is known by the request's identifier, and its parameters are absent or NULL
abbrev pub HasKnownAlgorithm : List AlgorithmValue → RequestValue → Type 0
HasKnownAlgorithm algorithms r =
    ((a : AlgorithmValue) × Contains algorithms a × (a.identifier ≡ r.imprint.algorithm)) × HasPlainParameters r

-- each algorithm that is known by the request's identifier has the hash's length
abbrev pub HasAlgorithmLength : List AlgorithmValue → RequestValue → Type 0
HasAlgorithmLength algorithms r =
    (a : AlgorithmValue) → Contains algorithms a → a.identifier ≡ r.imprint.algorithm
    → length r.imprint.hash ≡ a.hash_length

-- Which rules hold of octets, where it is given which hold of a request: that the octets are a request, and else what
-- holds of each request that they spell.
abbrev pub HoldsOfOctets : (RequestValue → Rule → Type 0) → List ℕ → Rule → Type 0
HoldsOfOctets HoldsOf octets Spelling = IsSpelled octets
HoldsOfOctets HoldsOf octets rule = (r : RequestValue) → Spells octets r → HoldsOf r rule

-- the rule fails, and each rule of a lower number holds
pub record IsFirstFailing (Holds : Rule → Type 0) (rule : Rule) : Type 0 where
  pub fails : Holds rule → ⊥
  pub before : (earlier : Rule) → number_of earlier < number_of rule → Holds earlier
