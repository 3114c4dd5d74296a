use Rattle.std.proofs.Common.{◌≡◌, drop, map, [], string_bytes}
use Rattle.toml.specs.View.{items_view}
use Rattle.policy.specs.Kinds.{entries_after, name_in}
use Rattle.policy.proofs.parser.all_names.Given as goal

-- those read so far and those left are all
abbrev pub invariant-loop-value : goal.invariant-loop-value
invariant-loop-value l =
    entries_after (λ earlier. name_in l.field) (map string_bytes l.names.items)
    (items_view (drop l.value-index l.values))
    ≡ entries_after (λ earlier. name_in l.field) [] (items_view l.values)
