-- The octets of the lines before those of the stamps that are left are counted.
use Rattle.std.proofs.Common.{◌≡◌, ◌+◌, ◌-◌}
use Rattle.std.specs.Io.KnownBytes.{Keeps}
use Rattle.audit.proofs.Lines.{HasCounted, IsAskedOf}
use Rattle.audit.proofs.extracts.count_octets.Given as goal

abbrev pub invariant-loop-line : goal.invariant-loop-line
invariant-loop-line g l =
    HasCounted g.B.Standing l.fn.store l.walk.book.now l.from l.to l.octets l.walk.from l.walk.to
    × (l.walk.book.ghost_name ≡ l.initial.walk.book.ghost_name)
    × Keeps (g.W.Write.contents l.fn.out) (g.W.Write.contents l.out)
    × (g.W.Output.failures l.out ≡ g.W.Output.failures l.fn.out)
    × IsAskedOf g.B.Standing l.fn.store l.walk.book.now l.from l.to l.walk.from l.walk.to (g.W.Output.asked l.fn.out)
    (g.W.Output.asked l.out)

abbrev pub decreases-loop-line : goal.decreases-loop-line
decreases-loop-line g l = l.walk.to + 1 - l.walk.from
