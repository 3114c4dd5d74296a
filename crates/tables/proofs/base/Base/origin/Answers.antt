use Rattle.tables.proofs.{Words.refl, FoundLemmas.found_looks, Lookups.finds_origin}
use Rattle.tables.specs.Queries.{ShowsOrigin}
use Rattle.tables.proofs.base.Base.origin.Goals as goal

pub returns : goal.returns
returns g c =
    found_looks g.S.Store _ refl _ _ _ ShowsOrigin (λ x row found is read. read x is)
    _ c.first_at.ensures (finds_origin c.args.serial)
