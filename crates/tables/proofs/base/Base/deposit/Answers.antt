use Rattle.tables.proofs.{Words.refl, FoundLemmas.found_looks, Lookups.finds_deposit}
use Rattle.tables.specs.Queries.{ShowsDeposit}
use Rattle.tables.proofs.base.Base.deposit.Goals as goal

pub returns : goal.returns
returns g c =
    found_looks g.S.Store _ refl _ _ _ ShowsDeposit (λ x row found is read. read x is)
    _ c.first_at.ensures (finds_deposit c.args.serial)
