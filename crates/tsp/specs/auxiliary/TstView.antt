-- What the parts of a TSTInfo stand for while it is read.
use Rattle.std.specs.Prelude.{option_map}
use Rattle.der.specs.DataValueView.{value_view}
use Rattle.tsp.specs.{auxiliary.TstParser.TstHead, auxiliary.TstParser.TstParts, View.imprint_view}
use Rattle.tsp.specs.declared.tst_parser.{Head.Head, Parts.Parts}

abbrev pub head_view : Head → TstHead
head_view head = record {
  policy = head.policy;
  imprint = imprint_view head.imprint;
  serial = head.serial;
  time = head.time.now;
  accuracy = head.accuracy;
}

abbrev pub parts_view : Parts → TstParts
parts_view parts = record {
  head = head_view parts.head;
  ordering = parts.ordering;
  nonce = parts.nonce;
  tsa = option_map value_view parts.tsa;
  extensions = parts.extensions;
}
