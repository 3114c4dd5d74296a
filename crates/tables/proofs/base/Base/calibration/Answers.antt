use Rattle.tables.proofs.{Words.refl, FoundLemmas.found_looks, Lookups.finds_calibration, ReadCells.calibration_read}
use Rattle.tables.specs.Queries.{ShowsCalibration}
use Rattle.tables.proofs.base.Base.calibration.Goals as goal

pub returns : goal.returns
returns g c =
    found_looks g.S.Store _ refl _ _ _ ShowsCalibration calibration_read
    _ c.first_at.ensures (finds_calibration c.args.number)
