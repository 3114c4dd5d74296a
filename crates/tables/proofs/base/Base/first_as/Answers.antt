use Rattle.tables.proofs.{Words.refl, BaseReads.fault_told, BaseReads.read_on, BaseReads.refused_too}
use Rattle.tables.proofs.base.Base.first_as.Goals as goal

pub returns-in-Ok : goal.returns-in-Ok
returns-in-Ok g c =
    read_on g.S.Store _ _ _ _ _ _ (λ t told. (_, told, rw c.in-Some.is (_, refl, c.in-Ok.ensures))) c.in_ok-row.ensures

pub returns : goal.returns
returns g c =
    fault_told g.S.Store _ _ _ _ _ c.in_ok-row.ensures.reads c.in_ok-row.ensures.uncounted c.fault.ensures.same
    c.fault.ensures.counted

pub returns-in_err-row : goal.returns-in_err-row
returns-in_err-row g c = refused_too g.S.Store _ _ _ _ _ _ c.from_residual.ensures.1 c.in_err-row.ensures
