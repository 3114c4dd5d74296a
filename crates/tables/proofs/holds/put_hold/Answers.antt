use Rattle.tables.proofs.{Words.hold_view, Words.refl, Words.◌+◌, CellLemmas.value_more, InsertLemmas.adds_hold}
use Rattle.tables.proofs.{Lookups.finds_greatest_hold, NumberLemmas.number_is, NumberLemmas.numbered}
use Rattle.tables.specs.{Changes.greatest_by, Changes.hold_row, Tables.with_hold}
use Rattle.tables.proofs.holds.put_hold.Goals as goal

pub number_in-requires : goal.number_in-requires
number_in-requires g c = finds_greatest_hold.text

pub returns-clause-carries : goal.returns-clause-carries
returns-clause-carries g c =
    let value = hold_view c.args.hold.now in
    numbered (λ n. with_hold (hold_row value (n + 1))) (λ t. greatest_by (λ row. row.n) t.holds)
    _ _ _ _ _ c.in_ok-greatest.ensures.carries
    (λ clean t d. number_is _ _ (λ x. refl) _ _ finds_greatest_hold t _ _ d.holds
    (c.in_ok-greatest.ensures.told clean d.schema))
    (adds_hold (hold_row value (c.in_ok-greatest.greatest + 1)) _ _ _ c.execute.ensures.survives _
    (value_more _ _ c.in_ok-n.ensures.value (value_more _ _ c.to_sql.ensures (value_more _ _ c.to_sql-2.ensures refl)))
    c.execute.ensures.runs)
