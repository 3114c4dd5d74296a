use Rattle.tables.proofs.{Words.refl, FoundLemmas.greatest_looks, Lookups.finds_last_stamp, ReadCells.last_read}
use Rattle.tables.specs.Queries.{ShowsLast}
use Rattle.tables.proofs.base.Base.greatest_stamp.Goals as goal

pub returns : goal.returns
returns g c =
    greatest_looks g.S.Store _ refl _ _ _ ShowsLast last_read
    _ c.first_as.ensures finds_last_stamp
