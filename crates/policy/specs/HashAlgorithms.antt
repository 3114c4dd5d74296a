-- The hash algorithms whose hashes have one length: their object identifiers by subidentifiers (RFC 3370 2.1 for SHA-1,
-- RFC 5754 2 for the others), and how many octets their hashes have (FIPS 180-4).
use Rattle.std.specs.Prelude.{ℕ, List, [], ◌∷◌}
use Rattle.policy.specs.declared.hash_algorithm.HashAlgorithm.{HashAlgorithm}
use Rattle.policy.specs.declared.hash_algorithm.HashAlgorithm.TheVariants.{Sha1, Sha224, Sha256, Sha384, Sha512}

pub record HashAlgorithmValue : Type 0 where
  pub oid : List ℕ
  pub length : ℕ

-- 2.16.840.1.101.3.4.2.n, NIST's hash algorithms
abbrev pub nist : ℕ → List ℕ
nist n = 96 ∷ 840 ∷ 1 ∷ 101 ∷ 3 ∷ 4 ∷ 2 ∷ n ∷ []

-- SHA-1 is 1.3.14.3.2.26
abbrev pub value_of : HashAlgorithm → HashAlgorithmValue
value_of Sha1 = record { oid = 43 ∷ 14 ∷ 3 ∷ 2 ∷ 26 ∷ []; length = 20 }
value_of Sha224 = record { oid = nist 4; length = 28 }
value_of Sha256 = record { oid = nist 1; length = 32 }
value_of Sha384 = record { oid = nist 2; length = 48 }
value_of Sha512 = record { oid = nist 3; length = 64 }

unfoldable pub hash_algorithms : List HashAlgorithmValue
hash_algorithms = value_of Sha1 ∷ value_of Sha224 ∷ value_of Sha256 ∷ value_of Sha384 ∷ value_of Sha512 ∷ []
