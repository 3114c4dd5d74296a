use Rattle.std.proofs.Common.{◌∙◌}
use Rattle.der.proofs.ValuesTaken.{end_of_values}
use Rattle.der.proofs.data_value.DataValues.is_empty.Goals as goal

pub returns : goal.returns
returns c = c.is_empty.ensures ∙ end_of_values c.args.self.now.rest.now c.args.self.now.lawful
