-- The numbers of the refusals.
use Rattle.std.specs.Prelude.{ℕ}
use Rattle.tsp.specs.declared.fault.TspFault.{TspFault, TheVariants.Form, TheVariants.TooLong, TheVariants.Memory}

abbrev pub number_of : TspFault → ℕ
number_of Form = 1
number_of TooLong = 2
number_of Memory = 3
