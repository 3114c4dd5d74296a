-- No field before has the name.
use Rattle.std.proofs.Common.{◌≡◌, drop, map}
use Rattle.httparse.specs.Spans.{header_bytes}
use Rattle.service.specs.Fields.{values}
use Rattle.service.proofs.fields.first_field.Given as goal

abbrev pub invariant-loop-index : goal.invariant-loop-index
invariant-loop-index l =
    values l.name (map (header_bytes l.octets) (drop l.index l.headers))
    ≡ values l.name (map (header_bytes l.octets) l.headers)
