-- Which entries fit a history, and sound histories: what the counter may accept, of what the history alone says. What
-- it says of DER texts and hashes stands above.
use Rattle.std.specs.Prelude.{◌≡◌, ℕ, ◌<◌, ◌≤◌, ◌<ℤ◌, int_lt, Bool, false, IsTrue, [], ◌∷◌, Option, Some, None}
use Rattle.gentime.specs.GenTime.{last_moment}
use Rattle.book.specs.{Rows.DepositRow, History.deposit_at, History.deposit_under}
use Rattle.book.specs.History.{Entry, Reserved, Sealed, Deposited, Calibrated, Held, Granted, Revoked, Installed}
use Rattle.book.specs.History.{History, ReservationValue, CalibrationValue, greatest_serial, token_of, reservation_at}

-- a fact of each entry and the history before it
abbrev pub Along : (Entry → History → Type 0) → History → Type 0
Along P [] = Unit {0}
Along P (entry ∷ b) = P entry b × Along P b

-- the greatest number of 63 bits: of serial numbers, and of microseconds
abbrev pub greatest_number : ℕ
greatest_number = 9223372036854775807

-- serial numbers rise, within 2^63 - 1
pub record FitsReserved (r : ReservationValue) (b : History) : Type 0 where
  pub rises : greatest_serial b < r.serial
  pub within : r.serial ≤ greatest_number
  pub moment : r.gen_time ≤ last_moment

-- a number is sealed after it was reserved, and once
pub record FitsSealed (serial : ℕ) (b : History) : Type 0 where
  pub reservation : ReservationValue
  pub reserved : reservation_at serial b ≡ Some reservation
  pub open_yet : token_of serial b ≡ None

-- so is a deposit's; it belongs to the account of its reservation, and its owner hasn't used the reference
pub record FitsDeposited (d : DepositRow) (b : History) : Type 0 where
  pub sealed : FitsSealed d.serial b
  pub owner : sealed.reservation.account ≡ d.owner
  pub unused : deposit_under d.owner d.reference b ≡ None

-- rights are those to a deposit
pub record FitsRight (number : ℕ) (b : History) : Type 0 where
  pub deposit : DepositRow
  pub deposited : deposit_at number b ≡ Some deposit

abbrev pub Fits : Entry → History → Type 0
Fits (Reserved r) b = FitsReserved r b
Fits (Sealed serial token) b = FitsSealed serial b
Fits (Deposited d token) b = FitsDeposited d b
Fits (Calibrated c) b = c.uncertainty ≤ 1_000_000_000_000
Fits (Held h) b = h.from <ℤ h.to
Fits (Granted number reader) b = FitsRight number b
Fits (Revoked number reader) b = FitsRight number b
Fits (Installed i) b = Unit {0}

abbrev pub IsSound : History → Type 0
IsSound b = Along Fits b

-- all serial numbers are used up
abbrev pub IsExhausted : History → Type 0
IsExhausted b = greatest_serial b ≡ greatest_number

-- the reading is before that of the latest calibration
abbrev pub is_backwards : CalibrationValue → Option CalibrationValue → Bool
is_backwards c None = false
is_backwards c (Some latest) = int_lt c.reading latest.reading

abbrev pub IsBackwards : CalibrationValue → Option CalibrationValue → Type 0
IsBackwards c latest = IsTrue (is_backwards c latest)
