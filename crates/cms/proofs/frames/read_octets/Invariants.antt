-- What is filled was consumed.
use Rattle.std.proofs.Common.{◌≡◌, ℕ, ◌<◌, ◌≤◌, ◌-◌, length, take, get_or}
use Rattle.std.specs.Io.KnownBytes.{Consumes}
use Rattle.cms.proofs.frames.read_octets.Given as goal

abbrev pub invariant-loop-filled : goal.invariant-loop-filled
invariant-loop-filled g l = (length l.octets ≡ length l.initial.octets) × (l.filled ≤ length l.octets)
    × Consumes (g.R.Read.remaining l.initial.reader) (g.R.Read.remaining l.reader) (take l.filled l.octets)
    × ((i : ℕ) → get_or l.octets i 0 < 256)

abbrev pub decreases-loop-filled : goal.decreases-loop-filled
decreases-loop-filled g l = length l.initial.octets - l.filled
