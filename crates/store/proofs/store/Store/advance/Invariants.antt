-- The cursors of the account and of the groups so far have moved.
use Rattle.store.proofs.{Words.map, Words.viewer_of, CursorMoves.HasMoved}
use Rattle.store.proofs.store.Store.advance.Given as goal

abbrev pub invariant-loop-i : goal.invariant-loop-i
invariant-loop-i g l =
    HasMoved g.S.Store l.fn.self l.self (viewer_of l.account (map (λ name. name.now) l.groups)) l.after
    l.fn.cursors.own l.fn.cursors.shared.items l.cursors.own l.cursors.shared.items l.i
