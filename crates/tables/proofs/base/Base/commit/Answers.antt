use Rattle.tables.proofs.{Words.entries_view, BaseLemmas.crash_leaves, BaseLemmas.keeps_on, BaseLemmas.keeps_still}
use Rattle.tables.specs.Changes.{applied_all}
use Rattle.tables.proofs.base.Base.commit.Goals as goal

pub returns-in-Ok-clause-ok : goal.returns-in-Ok-clause-ok
returns-in-Ok-clause-ok g c t keeps =
    keeps_on g.S.Store g.met.S.Store.settled (applied_all (entries_view c.args.entries.now)) c.self.inside.conn c.commit_entries.new.conn
    c.in-Ok.ensures.closed t (rw (← c.self.view_is) at keeps) _ c.in-Ok.ensures.commits

pub returns-in-Ok-clause-crash : goal.returns-in-Ok-clause-crash
returns-in-Ok-clause-crash g c =
    rw (← c.self.view_is) (crash_leaves g.S.Store (applied_all (entries_view c.args.entries.now)) c.self.inside.conn
    c.commit_entries.new.conn _ c.in-Ok.ensures.commits)

pub returns-in-Err-clause-crash : goal.returns-in-Err-clause-crash
returns-in-Err-clause-crash g c =
    rw (← c.self.view_is, c.fault.ensures.same) (crash_leaves g.S.Store (applied_all (entries_view c.args.entries.now)) c.self.inside.conn
    c.commit_entries.new.conn _ c.in-Err.ensures.commits)

pub returns-in-Ok-clause-err : goal.returns-in-Ok-clause-err
returns-in-Ok-clause-err g c t keeps = tt

pub returns-in-Err-clause-opened : goal.returns-in-Err-clause-opened
returns-in-Err-clause-opened g c honest = tt

pub returns-in-Err-clause-ok : goal.returns-in-Err-clause-ok
returns-in-Err-clause-ok g c t keeps = tt

pub returns-in-Err-clause-err : goal.returns-in-Err-clause-err
returns-in-Err-clause-err g c t keeps =
    rw c.fault.ensures.same (keeps_still g.S.Store g.met.S.Store.settled (applied_all (entries_view c.args.entries.now)) c.self.inside.conn
    c.commit_entries.new.conn c.in-Err.ensures.closed t (rw (← c.self.view_is) at keeps) _ c.in-Err.ensures.commits)
