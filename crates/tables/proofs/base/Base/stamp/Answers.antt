use Rattle.tables.proofs.{Words.refl, FoundLemmas.found_looks, Lookups.finds_stamp}
use Rattle.tables.specs.Queries.{ShowsStamp}
use Rattle.tables.proofs.base.Base.stamp.Goals as goal

pub returns : goal.returns
returns g c =
    found_looks g.S.Store _ refl _ _ _ ShowsStamp (λ x row found is read. read x is)
    _ c.first_at.ensures (finds_stamp c.args.serial)
