-- The reply to a request that a rule refuses: TimeStampResp with status, statusString and failInfo (RFC 3161 2.4.2).
use Rattle.std.specs.Prelude.{ℕ, ◌+◌, ◌-◌, ◌/◌, ◌%◌, ◌^◌, pos, List, [], ◌∷◌, ◌++◌, codes, replicate}
use Rattle.der.specs.Node.{Node, primitive}
use Rattle.tsp.specs.{Grammar.sequence, Grammar.integer, declared.rule.Rule.Rule}
use Rattle.tsp.specs.declared.rule.Rule.TheVariants.{Spelling, Version, Account, Algorithm, HashLength, Policy}
use Rattle.tsp.specs.declared.rule.Rule.TheVariants.{PolicyAlgorithm, Extensions, Certificate, Clock, Quota, System}

-- the rule's number, 1 to 12
abbrev pub number_of : Rule → ℕ
number_of Spelling = 1
number_of Version = 2
number_of Account = 3
number_of Algorithm = 4
number_of HashLength = 5
number_of Policy = 6
number_of PolicyAlgorithm = 7
number_of Extensions = 8
number_of Certificate = 9
number_of Clock = 10
number_of Quota = 11
number_of System = 12

-- PKIFailureInfo: badAlg 0, badRequest 2, badDataFormat 5, timeNotAvailable 14, unacceptedPolicy 15,
-- unacceptedExtension 16, addInfoNotAvailable 17, systemFailure 25
abbrev pub failure_bit : Rule → ℕ
failure_bit Spelling = 5
failure_bit Version = 2
failure_bit Account = 2
failure_bit Algorithm = 0
failure_bit HashLength = 5
failure_bit Policy = 15
failure_bit PolicyAlgorithm = 0
failure_bit Extensions = 16
failure_bit Certificate = 17
failure_bit Clock = 14
failure_bit Quota = 2
failure_bit System = 25

-- a named bit list with that bit alone: how many bits of the last octet are unused, and the bits, bit 0 the first of
-- the first octet (X.690 8.6.2, 11.2)
abbrev pub one_bit : ℕ → Node
one_bit bit = primitive 0x03 ((7 - bit % 8) ∷ (replicate (bit / 8) 0x00 ++ (2 ^ (7 - bit % 8) ∷ [])))

-- `rule ` and the number in two digits
abbrev pub reason : ℕ → List ℕ
reason number = codes "rule " ++ ((0x30 + number / 10) ∷ (0x30 + number % 10) ∷ [])

-- status 2 (rejection), the one string, and the bit
abbrev pub rejection : Rule → Node
rejection rule =
    sequence (sequence (
    integer (pos 2)
    ∷ sequence (primitive 0x0c (reason (number_of rule)) ∷ [])
    ∷ one_bit (failure_bit rule)
    ∷ []) ∷ [])
