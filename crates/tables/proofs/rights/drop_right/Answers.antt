use Rattle.tables.proofs.CellLemmas.{text_more, value_more}
use Rattle.tables.proofs.{Words.reader_view, Words.refl, RightLemmas.takes_right}
use Rattle.tables.proofs.rights.drop_right.Goals as goal

pub returns-clause-carries : goal.returns-clause-carries
returns-clause-carries g c =
    takes_right (reader_view c.args.reader.now) c.args.serial _ _ _ c.execute.ensures.survives _
    (value_more _ _ c.in_ok-column.ensures.value (text_more c.in_table.ensures.name refl))
    (rw c.in_table.ensures.statement at c.execute.ensures.runs)
