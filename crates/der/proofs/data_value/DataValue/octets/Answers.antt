use Rattle.der.proofs.ValuesRead.{holds_value}
use Rattle.der.proofs.data_value.DataValue.octets.Goals as goal

pub returns : goal.returns
returns c = (holds_value c.args.self.now.element.whole.now c.args.self.now.lawful).encoded
