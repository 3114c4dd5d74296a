use Rattle.der.{proofs.ValuesTaken.parts_of_value, proofs.ValuesTaken.identifier_is, specs.DataValue.value_in}
use Rattle.der.proofs.data_value.DataValue.tag.Goals as goal

pub returns : goal.returns
returns c =
    let e = c.args.self.now.element in
    identifier_is e.tag.octet e.content.now (value_in e.whole.now)
    (parts_of_value e.whole.now e.tag.octet e.content.now c.args.self.now.lawful e.encoded e.tag.low_tag_number
    e.short)
