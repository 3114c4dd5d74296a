use Rattle.tables.proofs.{CellLemmas.value_more, InsertLemmas.adds_calibration, Lookups.finds_latest_calibration}
use Rattle.tables.proofs.{Words.calibration_view, Words.refl, Words.◌+◌, NumberLemmas.number_is, NumberLemmas.numbered}
use Rattle.tables.specs.{Changes.calibration_row, Changes.greatest_by, Tables.with_calibration}
use Rattle.tables.proofs.calibrations.put_calibration.Goals as goal

pub number_in-requires : goal.number_in-requires
number_in-requires g c = finds_latest_calibration.text

pub returns-clause-carries : goal.returns-clause-carries
returns-clause-carries g c =
    let value = calibration_view c.args.calibration.now in
    numbered (λ n. with_calibration (calibration_row value (n + 1))) (λ t. greatest_by (λ row. row.n) t.calibrations)
    _ _ _ _ _ c.in_ok-greatest.ensures.carries
    (λ clean t d. number_is _ _ (λ x. refl) _ _ finds_latest_calibration t _ _ d.holds
    (c.in_ok-greatest.ensures.told clean d.schema))
    (adds_calibration (calibration_row value (c.in_ok-greatest.greatest + 1)) _ _ _ c.execute.ensures.survives _
    (value_more _ _ c.in_ok-n.ensures.value (value_more _ _ c.to_sql.ensures (value_more _ _ c.to_sql-2.ensures
    (value_more _ _ c.in_ok-uncertainty.ensures.value refl))))
    c.execute.ensures.runs)
