-- What was taken was appended, and no write failed.
use Rattle.std.proofs.Common.{◌≡◌, ◌≤◌, ◌-◌, length, take}
use Rattle.std.specs.Io.KnownBytes.{Appends}
use Rattle.audit.proofs.writes.write_octets.Given as goal

abbrev pub invariant-loop-taken : goal.invariant-loop-taken
invariant-loop-taken g l = (l.taken ≤ length l.octets)
    × Appends (g.W.Write.contents l.initial.out) (g.W.Write.contents l.out) (take l.taken l.octets)
    × (g.W.Output.failures l.out ≡ g.W.Output.failures l.initial.out)

abbrev pub decreases-loop-taken : goal.decreases-loop-taken
decreases-loop-taken g l = length l.octets - l.taken
