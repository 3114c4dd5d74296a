-- What each entry of the history changes. Calibrations, holds and identities are numbered 1, 2, 3 and so on.
use Rattle.std.specs.Prelude.{◌≡◌, ℕ, ◌+◌, max, None, List, [], ◌∷◌}
use Rattle.std.specs.Hash.DefaultHasher.{wrapping_add}
use Rattle.book.specs.History.{Entry, Reserved, Sealed, Deposited, Calibrated, Held, Granted, Revoked, Installed}
use Rattle.book.specs.History.{CalibrationValue, HoldValue, stamp_of}
use Rattle.tables.specs.Tables.{Tables, CalibrationRow, HoldRow, with_stamp, with_token, with_deposit, with_calibration}
use Rattle.tables.specs.Tables.{with_hold, with_right, without_right, with_identity}
use Rattle.tables.specs.declared.fault.TableFault.{TableFault}
use Rattle.tables.specs.declared.fault.TableFault.TheVariants.{Memory, Database}

-- the greatest number of rows, 0 where there are none
abbrev pub greatest_by : {X : Type 0} → (X → ℕ) → List X → ℕ
greatest_by key [] = 0
greatest_by key (row ∷ rows) = max (key row) (greatest_by key rows)

-- that of the row that comes next
abbrev pub next_by : {X : Type 0} → (X → ℕ) → List X → ℕ
next_by key rows = greatest_by key rows + 1

abbrev pub calibration_row : CalibrationValue → ℕ → CalibrationRow
calibration_row c n = record { n = n; reading = c.reading; offset = c.offset; uncertainty = c.uncertainty }

abbrev pub hold_row : HoldValue → ℕ → HoldRow
hold_row h n = record { n = n; from = h.from; to = h.to }

abbrev pub applied : Entry → Tables → Tables
applied (Reserved r) t = with_stamp (stamp_of None r) t
applied (Sealed serial token) t = with_token serial token t
applied (Deposited d token) t = with_deposit d (with_token d.serial token t)
applied (Calibrated c) t = with_calibration (calibration_row c (next_by (λ row. row.n) t.calibrations)) t
applied (Held h) t = with_hold (hold_row h (next_by (λ row. row.n) t.holds)) t
applied (Granted number reader) t = with_right number reader t
applied (Revoked number reader) t = without_right number reader t
applied (Installed i) t = with_identity record {
  number = next_by (λ row. row.number) t.identities;
  after_serial = greatest_by (λ row. row.serial) t.stamps;
  certificate = i.certificate;
  chain = i.chain;
} t

-- each entry in turn, the first of the list first
abbrev pub applied_all : List Entry → Tables → Tables
applied_all [] t = t
applied_all (entry ∷ entries) t = applied_all entries (applied entry t)

abbrev pub IsCounted : TableFault → ℕ → ℕ → Type 0
IsCounted Memory old new = new ≡ old
IsCounted Database old new = new ≡ wrapping_add old 1
