-- The holds before this one are added.
use Rattle.std.proofs.Common.{◌≡◌, ◌++◌, map, take}
use Rattle.book.specs.{Entries.entries_view, Values.hold_view}
use Rattle.operations.specs.Continuation.{entries_of_holds}
use Rattle.operations.proofs.carried.add_holds.Given as goal

abbrev pub invariant-loop-hold : goal.invariant-loop-hold
invariant-loop-hold l =
    entries_view l.entries.items
    ≡ entries_view l.fn.entries.items ++ entries_of_holds (map hold_view (take l.hold-index l.holds))
