use Rattle.tables.proofs.{Words.reader_view, Words.refl, BaseReads.fault_alone, CellLemmas.text_more}
use Rattle.tables.proofs.{CellLemmas.value_more, FoundLemmas.any_looks, Lookups.finds_is_reader}
use Rattle.tables.proofs.base.Base.is_reader.Goals as goal

pub returns : goal.returns
returns g c =
    any_looks g.S.Store _
    (value_more _ _ c.in_ok-serial.ensures.value (text_more c.in_table.ensures.name refl)) _ _ _
    (rw (c.in_ok-serial.ensures.same, c.in_table.ensures.statement) at c.any_row.ensures)
    (finds_is_reader (reader_view c.args.reader) c.args.serial)

pub returns-in_err-serial : goal.returns-in_err-serial
returns-in_err-serial g c =
    fault_alone g.S.Store _ _ _ _ _ c.from_residual.ensures.1
    c.in_err-serial.ensures.unasked c.in_err-serial.ensures.counted
