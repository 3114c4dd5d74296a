-- The rows are what is listed up to the last number, how far the cursors have gone is known, and nothing was written.
use Rattle.std.specs.Io.KnownBytes.{Keeps}
use Rattle.store.proofs.{Words.listed_view, Words.map, Words.viewer_of, Words.◌-◌, Words.◌^◌, Walk.HasListed}
use Rattle.store.proofs.store.StoreBook.list.Given as goal

abbrev pub invariant-loop-known : goal.invariant-loop-known
invariant-loop-known g l =
    HasListed g.S.Store l.fn.self l.self (viewer_of l.account (map (λ name. name.now) l.groups))
    (map listed_view l.rows.items) l.last l.cursors l.known.items
    × Keeps (g.W.Write.contents l.fn.output) (g.W.Write.contents l.output)

abbrev pub decreases-loop-known : goal.decreases-loop-known
decreases-loop-known g l = 2 ^ 63 - l.last
