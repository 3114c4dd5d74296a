use Rattle.tables.proofs.Lookups.{finds_latest_calibration}
use Rattle.tables.proofs.{Words.refl, FoundLemmas.greatest_looks, ReadCells.calibration_read}
use Rattle.tables.specs.Queries.{ShowsCalibration}
use Rattle.tables.proofs.base.Base.latest_calibration.Goals as goal

pub returns : goal.returns
returns g c =
    greatest_looks g.S.Store _ refl _ _ _ ShowsCalibration calibration_read
    _ c.first_as.ensures finds_latest_calibration
