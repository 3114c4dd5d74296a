-- What `calibrate` does: a calibration of the clock is added to the history.
use Rattle.std.specs.Prelude.{◌≡◌, ℤ, ℕ, Bool, true, false, pos, neg_ℤ, Ok}
use Rattle.book.specs.{History.CalibrationValue, Values.calibration_view, declared.values.Calibration.Calibration}
use Rattle.command_line.specs.declared.words.CalibrateWords.{CalibrateWords}
use Rattle.connections.specs.Clock.{Reading}
use Rattle.operations.specs.{Addition.IsAdded, Machine.Machine, OverFiles.IsDoneOver}
use Rattle.operations.specs.declared.addition.Addition.TheVariants as addition

-- a number of microseconds, or minus that number
abbrev pub offset_of : Bool → ℕ → ℤ
offset_of true offset = neg_ℤ (pos offset)
offset_of false offset = pos offset

abbrev pub calibration_of : CalibrateWords → CalibrationValue
calibration_of words = record {
  reading = pos words.reading;
  offset = offset_of words.behind words.offset;
  uncertainty = words.uncertainty;
}

pub record Calibrates {D X C : Type 0} (m : Machine D X C Reading) (words : CalibrateWords) : Type 0 where
  -- the reading, the offset and the uncertainty that the words state, in microseconds
  pub calibration : Calibration
  pub stated : calibration_view calibration ≡ calibration_of words
  -- it is added to the store of the database, in one commit, and has this number there
  pub number : ℕ
  pub added : IsDoneOver m.disk m.held (λ g opened left.
      IsAdded g (addition.Calibration calibration) opened left (Ok number))
