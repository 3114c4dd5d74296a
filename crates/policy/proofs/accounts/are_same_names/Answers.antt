use Rattle.std.proofs.Common.{map, string_bytes, sym, ◌∙◌}
use Rattle.std.specs.{Cmp.Derive.Mapped.pointwise-map, Str.bytes_eq}
use Rattle.std.proofs.lemmas.Slice.Eq.{slice_eq-Decides, bytes_eq-Decides}
use Rattle.policy.proofs.accounts.are_same_names.Goals as goal

pub returns : goal.returns
returns c =
    let one = c.args.one.now in
    let other = c.args.other.now in
    slice_eq-Decides bytes_eq-Decides (map string_bytes one) (map string_bytes other) c.eq.result
    (c.eq.ensures ∙ sym (pointwise-map string_bytes bytes_eq one other))
