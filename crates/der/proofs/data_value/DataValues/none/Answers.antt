use Rattle.der.proofs.ValuesTaken.{no_values, none_in}
use Rattle.der.proofs.data_value.DataValues.none.Goals as goal

pub invariant_of-result : goal.invariant_of-result
invariant_of-result c = record { lawful = no_values }

pub returns : goal.returns
returns c = none_in
