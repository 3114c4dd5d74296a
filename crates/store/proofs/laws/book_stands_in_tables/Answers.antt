use Rattle.store.proofs.Tables.{looks_tables, stands_tables}
use Rattle.store.proofs.laws.book_stands_in_tables.Goals as goal

pub returns-clause-stands : goal.returns-clause-stands
returns-clause-stands g c = stands_tables g.S.Store

pub returns-clause-looks : goal.returns-clause-looks
returns-clause-looks g c = looks_tables g.S.Store
