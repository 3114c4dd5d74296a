use Rattle.tables.proofs.{Words.refl, FoundLemmas.greatest_looks, Lookups.finds_greatest_hold, ReadCells.number_of}
use Rattle.tables.specs.Queries.{ShowsNumber}
use Rattle.tables.proofs.base.Base.greatest_hold.Goals as goal

pub returns-clause-looks : goal.returns-clause-looks
returns-clause-looks g c =
    greatest_looks g.S.Store _ refl _ _ _ ShowsNumber (λ x row n is read. number_of _ _ 0 _ _ is read refl)
    _ c.first_number.ensures.looks finds_greatest_hold
