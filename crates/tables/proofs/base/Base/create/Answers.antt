use Rattle.tables.proofs.{Words.entries_view, BaseLemmas.created_keeps}
use Rattle.tables.proofs.base.Base.create.Goals as goal

pub returns-in-Ok-clause-keeps : goal.returns-in-Ok-clause-keeps
returns-in-Ok-clause-keeps g c has =
    created_keeps g.S.Store g.met.S.Store.settled (entries_view c.args.entries.now) c.args.conn c.make_tables.new.conn
    c.in-Ok.ensures.closed c.in-Ok.ensures.made has
