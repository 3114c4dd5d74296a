-- The numbers of the refusals.
use Rattle.std.specs.Prelude.{ℕ}
use Rattle.der.specs.declared.fault.DerFault.{DerFault, TheVariants.Trailing, TheVariants.BadValue, TheVariants.Memory}
use Rattle.der.specs.declared.fault.DerFault.TheVariants.{Truncated, LengthForm, HighTag, WrongKind, TooDeep, TooLong}

abbrev pub number_of : DerFault → ℕ
number_of Truncated = 1
number_of LengthForm = 2
number_of HighTag = 3
number_of WrongKind = 4
number_of TooDeep = 5
number_of TooLong = 6
number_of Trailing = 7
number_of BadValue = 8
number_of Memory = 9
