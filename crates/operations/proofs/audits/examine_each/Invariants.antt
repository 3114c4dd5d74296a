-- The stamps before those that are left were looked at.
use Rattle.std.proofs.Common.{◌≡◌, ◌+◌, ◌-◌}
use Rattle.operations.proofs.ExaminedStamps.{HasExamined}
use Rattle.operations.proofs.audits.examine_each.Given as goal

abbrev pub invariant-loop-stamp : goal.invariant-loop-stamp
invariant-loop-stamp g l =
    HasExamined l.fn.asked g.B.Standing l.fn.book l.book l.fn.kept l.kept (g.E.Write.contents l.fn.errors)
    (g.E.Write.contents l.errors) l.from l.agree
    × (g.B.Standing.fault_count l.book ≡ g.B.Standing.fault_count l.fn.book)

abbrev pub decreases-loop-stamp : goal.decreases-loop-stamp
decreases-loop-stamp g l = l.fn.asked.inquiry.to + 1 - l.from
