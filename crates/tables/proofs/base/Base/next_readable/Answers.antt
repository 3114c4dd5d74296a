use Rattle.tables.proofs.{Words.reader_view, Words.refl, BaseReads.fault_alone, FoundLemmas.least_looks}
use Rattle.tables.proofs.{CellLemmas.text_more, CellLemmas.value_more, Lookups.finds_next_readable, ReadCells.number_of}
use Rattle.tables.specs.Queries.{ShowsReaderSerial}
use Rattle.tables.proofs.base.Base.next_readable.Goals as goal

pub returns-clause-looks : goal.returns-clause-looks
returns-clause-looks g c =
    least_looks g.S.Store _
    (text_more c.in_table.ensures.name (value_more _ _ c.in_ok-after.ensures.value refl)) _ _ _
    ShowsReaderSerial (λ x row n is read. number_of _ _ 0 _ _ is read refl) _
    (rw (c.in_ok-after.ensures.same, c.in_table.ensures.statement) at c.first_number.ensures.looks)
    (finds_next_readable (reader_view c.args.reader) c.args.after)

pub returns-in_err-after-clause-looks : goal.returns-in_err-after-clause-looks
returns-in_err-after-clause-looks g c =
    fault_alone g.S.Store _ _ _ _ _ c.from_residual.ensures.1
    c.in_err-after.ensures.unasked c.in_err-after.ensures.counted
