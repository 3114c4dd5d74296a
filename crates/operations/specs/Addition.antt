-- What an operator adds to the history.
use Rattle.std.specs.Prelude.{◌≡◌, [], ◌∷◌, ◌+◌, ℕ, length, IfOk, IsErr, Result, Err}
use Rattle.book.specs.History.{Entry, History, Calibrated, Held, calibrations, holds, latest_calibration}
use Rattle.book.specs.{Entries.Appends, Fault.IsOfStorageOr, Sound.IsBackwards, Stands.LeavesAsBefore, Stands.Stands}
use Rattle.book.specs.{Values.calibration_view, Values.hold_view, declared.fault.StoreFault.StoreFault}
use Rattle.book.specs.{declared.standing.Standing.Ghosts, declared.fault.StoreFault.TheVariants.Backwards}
use Rattle.operations.specs.declared.addition.Addition.{Addition}
use Rattle.operations.specs.declared.addition.Addition.TheVariants.{Calibration, Hold}

abbrev pub entry_of : Addition → Entry
entry_of (Calibration calibration) = Calibrated (calibration_view calibration)
entry_of (Hold hold) = Held (hold_view hold)

-- its number: calibrations count 1, 2, 3 and so on, and so do holds
abbrev pub number_of : Addition → History → ℕ
number_of (Calibration calibration) b = length (calibrations b) + 1
number_of (Hold hold) b = length (holds b) + 1

-- how an addition to an open database can be refused
abbrev pub IsAdditionFault : StoreFault → Type 0
IsAdditionFault = IsOfStorageOr Backwards

-- a calibration whose reading is before that of the latest
abbrev pub IsBefore : Addition → History → Type 0
IsBefore (Calibration calibration) b = IsBackwards (calibration_view calibration) (latest_calibration b)
IsBefore (Hold hold) b = ⊥

-- The entry is added in one commit, or it is refused. What was added is acknowledged with its number. While the book
-- returns what was written, it is told to be before the latest only where it is; nothing is added where it is.
pub record IsAdded {X : Type 0} (g : Ghosts X) (addition : Addition) (old new : X) (done : Result ℕ StoreFault)
    : Type 0 where
  pub appends : Appends g (entry_of addition ∷ []) old new done
  pub number : g.honest new → (b : History) → Stands g b old → IfOk done (λ number. number ≡ number_of addition b)
  pub backwards : g.honest new → (b : History) → Stands g b old → done ≡ Err Backwards → IsBefore addition b
  pub refused : g.honest new → (b : History) → Stands g b old → IsBefore addition b
      → IsErr done × LeavesAsBefore g old new
