use Rattle.tables.proofs.{Words.subst, BaseReads.fault_told, BaseReads.read_on, BaseReads.refused_too}
use Rattle.tables.specs.QueryAnswers.{AreReadAs}
use Rattle.tables.proofs.base.Base.all_as.Goals as goal

pub returns-in-Ok : goal.returns-in-Ok
returns-in-Ok g c =
    let are = subst (λ rows. AreReadAs g.R.FromRow.shows rows c.in-Ok.values.items) c.deref.ensures.value
    c.in-Ok.ensures in
    read_on g.S.Store _ _ _ _ _ _ (λ t told. (_, told, are)) c.in_ok-rows.ensures

pub returns : goal.returns
returns g c =
    fault_told g.S.Store _ _ _ _ _ c.in_ok-rows.ensures.reads c.in_ok-rows.ensures.uncounted c.fault.ensures.same
    c.fault.ensures.counted

pub returns-in_err-rows : goal.returns-in_err-rows
returns-in_err-rows g c = refused_too g.S.Store _ _ _ _ _ _ c.from_residual.ensures.1 c.in_err-rows.ensures
