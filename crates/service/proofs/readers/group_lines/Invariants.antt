-- The lines of those before.
use Rattle.std.proofs.Common.{take, map}
use Rattle.std.specs.Prelude.{string_bytes}
use Rattle.book.specs.Readers.{Group}
use Rattle.service.proofs.ReaderLemmas.{HasTold}
use Rattle.service.proofs.readers.group_lines.Given as goal

abbrev pub invariant-loop-group : goal.invariant-loop-group
invariant-loop-group g l =
    HasTold g.B.Standing l.owner l.number l.fn.store l.store
    (map (λ x. Group (string_bytes x.name)) (take l.group-index l.groups)) l.lines.items
