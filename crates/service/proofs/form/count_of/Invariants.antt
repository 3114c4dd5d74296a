-- The fields that were counted, and those that are left, are all fields.
use Rattle.std.proofs.Common.{◌≡◌, ◌+◌, ◌<◌, ◌^◌, length}
use Rattle.form_urlencoded.specs.Form.{raw_pairs}
use Rattle.service.proofs.form.count_of.Given as goal

abbrev pub invariant-loop : goal.invariant-loop
invariant-loop l =
    (l.count + length (raw_pairs l.iterator'.input.now) ≡ length (raw_pairs l.form))
    × (length (raw_pairs l.form) < 2 ^ 64)
