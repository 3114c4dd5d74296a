use Rattle.std.proofs.Common.{◌≡◌, drop, map, []}
use Rattle.toml.specs.View.{items_view}
use Rattle.policy.specs.Kinds.{entries_after, entry_in}
use Rattle.policy.proofs.arrays.entries.Given as goal

-- those read so far and those left are all
abbrev pub invariant-loop-value : goal.invariant-loop-value
invariant-loop-value g l =
    let read = entry_in l.field (g.E.Entry.meaning l.known) in
    entries_after read (map g.E.Entry.seen l.entries.items) (items_view (drop l.value-index l.values))
    ≡ entries_after read [] (items_view l.values)
