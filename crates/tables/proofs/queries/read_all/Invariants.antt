-- The values are what the rows before are read as.
use Rattle.tables.proofs.Words.{take}
use Rattle.tables.specs.QueryAnswers.{AreReadAs}
use Rattle.tables.proofs.queries.read_all.Given as goal

abbrev pub invariant-loop-row : goal.invariant-loop-row
invariant-loop-row g l = AreReadAs g.R.FromRow.shows (take l.row-index l.rows) l.values.items
