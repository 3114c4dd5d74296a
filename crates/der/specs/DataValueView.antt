-- The values that a `DataValue` and `DataValues` are.
use Rattle.der.specs.{Node.Node, Node.Nodes, DataValue.value_in, DataValue.values_in}
use Rattle.der.specs.declared.data_value.{DataValue.DataValue, DataValues.DataValues}

abbrev pub value_view : DataValue → Node
value_view value = value_in value.element.whole.now

abbrev pub values_view : DataValues → Nodes
values_view values = values_in values.rest.now
