use Rattle.tables.proofs.{Words.refl, BaseReads.fault_told, BaseReads.reads_only}
use Rattle.tables.proofs.base.Base.rows.Goals as goal

pub returns-in-Ok : goal.returns-in-Ok
returns-in-Ok g c = rw (← c.self.view_is) (record {
  reads = reads_only g.S.Store _ _ c.rows_of.ensures.closed c.rows_of.ensures.looks;
  opened = c.in-Ok.ensures.opened;
  value = λ honest t keeps.
      let is = (keeps (c.rows_of.ensures.looks.clean honest) (c.in-Ok.ensures.opened honest)).database in
      (_, is.holds, λ text. c.in-Ok.ensures.told text honest is.schema);
  counted = tt;
  uncounted = refl;
})

pub returns-in-Err : goal.returns-in-Err
returns-in-Err g c = rw (← c.self.view_is) (fault_told g.S.Store _ _ _ _ _
    (reads_only g.S.Store _ _ c.rows_of.ensures.closed c.rows_of.ensures.looks) refl c.fault.ensures.same
    c.fault.ensures.counted)
