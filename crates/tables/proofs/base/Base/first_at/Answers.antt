use Rattle.tables.proofs.{Words.refl, BaseReads.fault_alone, CellLemmas.value_more, FoundLemmas.looks_given}
use Rattle.tables.proofs.base.Base.first_at.Goals as goal

pub returns : goal.returns
returns g c =
    looks_given g.S.Store (value_more _ _ c.in_ok-number.ensures.value refl)
    (rw c.in_ok-number.ensures.same at c.first_as.ensures)

pub returns-in_err-number : goal.returns-in_err-number
returns-in_err-number g c =
    fault_alone g.S.Store _ _ _ _ _ c.from_residual.ensures.1
    c.in_err-number.ensures.unasked c.in_err-number.ensures.counted
