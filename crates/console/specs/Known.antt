-- The hash algorithms that are known without a policy file: those whose lengths a policy file may not change.
use Rattle.std.specs.Prelude.{List, [], ◌∷◌}
use Rattle.policy.specs.declared.hash_algorithm.HashAlgorithm.TheVariants.{Sha1, Sha224, Sha256, Sha384, Sha512}
use Rattle.policy.specs.{HashAlgorithms.value_of, declared.hash_algorithm.HashAlgorithm.HashAlgorithm}
use Rattle.tsp.specs.Rules.{AlgorithmValue}

abbrev pub algorithm : HashAlgorithm → AlgorithmValue
algorithm a = record { identifier = (value_of a).oid; hash_length = (value_of a).length }

abbrev pub five_algorithms : List AlgorithmValue
five_algorithms = algorithm Sha1 ∷ algorithm Sha224 ∷ algorithm Sha256 ∷ algorithm Sha384 ∷ algorithm Sha512 ∷ []
