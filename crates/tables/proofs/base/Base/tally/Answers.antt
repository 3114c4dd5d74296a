use Rattle.tables.proofs.CellLemmas.{text_more, value_more}
use Rattle.tables.proofs.{Words.refl, FoundLemmas.found_looks, Lookups.finds_tally, ReadCells.number_of}
use Rattle.tables.specs.Queries.{ShowsCount}
use Rattle.tables.proofs.base.Base.tally.Goals as goal

pub returns : goal.returns
returns g c =
    found_looks g.S.Store _ (text_more c.as_bytes.ensures.value (value_more _ _ c.cell.ensures refl))
    _ _ _ ShowsCount (λ x row n is read. number_of _ _ 0 _ _ is read refl)
    _ c.first_number.ensures.looks (finds_tally c.args.account.now c.args.day.value)
