-- The lines before those of the stamps that are left are written.
use Rattle.std.proofs.Common.{◌≡◌, ◌≤◌, ◌+◌, ◌-◌}
use Rattle.audit.proofs.Lines.{HasWritten}
use Rattle.audit.proofs.extracts.write_stamps.Given as goal

abbrev pub invariant-loop-line : goal.invariant-loop-line
invariant-loop-line g l =
    HasWritten g.B.Standing l.fn.store l.walk.book.now (g.W.Write.contents l.fn.out) (g.W.Write.contents l.out)
    l.inquiry.from l.inquiry.to l.meter.octets l.walk.from l.walk.to
    × (l.meter.octets ≤ l.meter.limit) × (l.walk.book.ghost_name ≡ l.initial.walk.book.ghost_name)
    × (g.W.Output.failures l.out ≡ g.W.Output.failures l.fn.out) × (l.meter.limit ≡ l.fn.meter.limit)

abbrev pub decreases-loop-line : goal.decreases-loop-line
decreases-loop-line g l = l.walk.to + 1 - l.walk.from
