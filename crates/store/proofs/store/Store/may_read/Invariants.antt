-- Nobody that was asked of reads the deposit.
use Rattle.store.proofs.{Words.drop, Words.map, Words.viewer_of, Asked.HasAsked}
use Rattle.store.proofs.store.Store.may_read.Given as goal

abbrev pub invariant-loop-name : goal.invariant-loop-name
invariant-loop-name g l =
    HasAsked g.S.Store l.fn.self l.self l.number (viewer_of l.account (map (λ name. name.now) l.groups))
    (map (λ name. name.now) (drop l.name-index l.groups))
