use Rattle.tables.proofs.{Words.refl, CellLemmas.value_more, FoundLemmas.least_looks, Lookups.finds_next_stamp}
use Rattle.tables.specs.Queries.{ShowsStamp}
use Rattle.tables.proofs.base.Base.next_stamp.Goals as goal

pub returns : goal.returns
returns g c =
    least_looks g.S.Store _ (value_more _ _ c.cell.ensures (value_more _ _ c.cell-2.ensures refl))
    _ _ _ ShowsStamp (λ x row found is read. read x is)
    _ c.first_as.ensures (finds_next_stamp c.args.from.value c.args.to.value)
