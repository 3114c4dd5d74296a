use Rattle.tables.proofs.{Words.refl, FoundLemmas.found_looks, Lookups.finds_hold, ReadCells.hold_read}
use Rattle.tables.specs.Queries.{ShowsHold}
use Rattle.tables.proofs.base.Base.hold.Goals as goal

pub returns : goal.returns
returns g c =
    found_looks g.S.Store _ refl _ _ _ ShowsHold hold_read
    _ c.first_at.ensures (finds_hold c.args.number)
