use Rattle.der.proofs.ValuesRead.{holds_value, value_in-encoding, holds_values, values_in-encodings}
use Rattle.der.proofs.values.encodings_are_read.Goals as goal

pub returns : goal.returns
returns c = record {
  value = value_in-encoding;
  values = values_in-encodings;
  lawful = λ octets held. let value = holds_value octets held in (value.lawful, value.encoded);
  all_lawful = λ octets held.
      let values = holds_values octets held in (values.formed, values.depth, values.encoded);
}
