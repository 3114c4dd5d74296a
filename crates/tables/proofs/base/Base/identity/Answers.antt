use Rattle.tables.proofs.{Words.refl, FoundLemmas.found_looks, Lookups.finds_identity}
use Rattle.tables.specs.Queries.{ShowsIdentity}
use Rattle.tables.proofs.base.Base.identity.Goals as goal

pub returns : goal.returns
returns g c =
    found_looks g.S.Store _ refl _ _ _ ShowsIdentity (λ x row found is read. read x is)
    _ c.first_at.ensures (finds_identity c.args.number)
