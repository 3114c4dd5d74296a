-- The numbers of the refusals.
use Rattle.std.specs.Prelude.{ℕ}
use Rattle.policy.specs.declared.fault.PolicyFault.{PolicyFault, TheVariants.TooMany, TheVariants.Memory}
use Rattle.policy.specs.declared.fault.PolicyFault.TheVariants.{Toml, Missing, BadValue, Duplicate, UnknownName}

abbrev pub number_of : PolicyFault → ℕ
number_of Toml = 1
number_of (Missing field) = 2
number_of (BadValue field) = 3
number_of (Duplicate field) = 4
number_of (UnknownName field) = 5
number_of (TooMany field) = 6
number_of Memory = 7
