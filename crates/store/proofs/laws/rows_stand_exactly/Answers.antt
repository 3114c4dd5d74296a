use Rattle.store.proofs.Exactly.{group_reader_rows, reader_rows, tally_rows}
use Rattle.store.proofs.laws.rows_stand_exactly.Goals as goal

pub returns-clause-readers : goal.returns-clause-readers
returns-clause-readers c = reader_rows

pub returns-clause-tallies : goal.returns-clause-tallies
returns-clause-tallies c = tally_rows

pub returns-clause-group_readers : goal.returns-clause-group_readers
returns-clause-group_readers c = group_reader_rows
