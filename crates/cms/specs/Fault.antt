-- The numbers of the refusals.
use Rattle.std.specs.Prelude.{ℕ}
use Rattle.cms.specs.declared.fault.CmsFault.{CmsFault}
use Rattle.cms.specs.declared.fault.CmsFault.TheVariants.{NotCertificate, TooLarge, Memory, TooMany, Repeated}

abbrev pub number_of : CmsFault → ℕ
number_of NotCertificate = 1
number_of TooLarge = 2
number_of Memory = 3
number_of TooMany = 4
number_of Repeated = 5
