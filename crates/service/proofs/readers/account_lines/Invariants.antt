-- The lines of those before.
use Rattle.std.proofs.Common.{take, map}
use Rattle.std.specs.Prelude.{string_bytes}
use Rattle.book.specs.Readers.{Account}
use Rattle.service.proofs.ReaderLemmas.{HasTold}
use Rattle.service.proofs.readers.account_lines.Given as goal

abbrev pub invariant-loop-account : goal.invariant-loop-account
invariant-loop-account g l =
    HasTold g.B.Standing l.owner l.number l.fn.store l.store
    (map (λ x. Account (string_bytes x.name)) (take l.account-index l.accounts)) l.lines.items
