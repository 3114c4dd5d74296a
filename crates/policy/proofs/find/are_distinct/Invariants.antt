use Rattle.std.proofs.Common.{◌≡◌, map, length, string_bytes}
use Rattle.policy.specs.Kinds.{are_distinct}
use Rattle.policy.proofs.find.are_distinct.Given as goal

-- those left are distinct where all are
abbrev pub invariant-loop-first : goal.invariant-loop-first
invariant-loop-first l = are_distinct (map string_bytes l.rest) ≡ are_distinct (map string_bytes l.fn.names)

abbrev pub decreases-loop-first : goal.decreases-loop-first
decreases-loop-first l = length l.rest
