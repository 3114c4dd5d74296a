-- The field isn't among those before.
use Rattle.std.proofs.Common.{◌≡◌}
use Rattle.form_urlencoded.specs.Form.{raw_pairs}
use Rattle.service.specs.Forms.{field_of}
use Rattle.service.proofs.form.field_of.Given as goal

abbrev pub invariant-loop-found : goal.invariant-loop-found
invariant-loop-found l = field_of l.name (raw_pairs l.form) ≡ field_of l.name (raw_pairs l.found-iterator.input.now)
