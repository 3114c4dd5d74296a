-- The numbers of the refusals.
use Rattle.std.specs.Prelude.{ℕ}
use Rattle.gentime.specs.declared.fault.GenTimeFault.{GenTimeFault}
use Rattle.gentime.specs.declared.fault.GenTimeFault.TheVariants.{Form, Date, Range, Memory}

-- of two refusals that hold the one with the lower number is answered
abbrev pub number_of : GenTimeFault → ℕ
number_of Form = 1
number_of Date = 2
number_of Range = 3
number_of Memory = 4
