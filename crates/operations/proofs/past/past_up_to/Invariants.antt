-- The stamps before those that are left are known.
use Rattle.std.proofs.Common.{◌≡◌, ◌+◌, ◌-◌}
use Rattle.operations.proofs.PastRows.{KnowsBefore}
use Rattle.operations.proofs.past.past_up_to.Given as goal

abbrev pub invariant-loop-past : goal.invariant-loop-past
invariant-loop-past g l =
    KnowsBefore g.B.Standing l.fn.book l.book l.fn.last l.from l.past
    × (g.B.Standing.fault_count l.book ≡ g.B.Standing.fault_count l.fn.book)

abbrev pub decreases-loop-past : goal.decreases-loop-past
decreases-loop-past g l = l.fn.last + 1 - l.from
