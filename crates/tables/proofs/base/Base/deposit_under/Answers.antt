use Rattle.tables.proofs.{Words.refl, CellLemmas.text_more, FoundLemmas.found_looks, Lookups.finds_deposit_under}
use Rattle.tables.specs.Queries.{ShowsDeposit}
use Rattle.tables.proofs.base.Base.deposit_under.Goals as goal

pub returns : goal.returns
returns g c =
    found_looks g.S.Store _ (text_more c.as_bytes.ensures.value (text_more c.as_bytes-2.ensures.value refl))
    _ _ _ ShowsDeposit (λ x row found is read. read x is)
    _ c.first_as.ensures (finds_deposit_under c.args.owner.now c.args.reference.now)
