use Rattle.std.{proofs.Common.◌∙◌, proofs.Common.ap, proofs.Common.map, proofs.Common.string_bytes, specs.List.list_all}
use Rattle.policy.{specs.Kinds.is_among, proofs.Keys.has_only-keys}
use Rattle.policy.proofs.parser.only.Goals as goal

-- all keys are left
pub loop-key-init : goal.loop-key-init
loop-key-init c =
    let known = map (λ k. k.now) c.args.known.now in
    ap (λ ks. list_all (is_among known) (map string_bytes ks))
    (c.into_iter-key-iterator.ensures.into_iter_gives ∙ c.keys-key-items.ensures.rest)
    ∙ has_only-keys known c.args.table.now.entries
