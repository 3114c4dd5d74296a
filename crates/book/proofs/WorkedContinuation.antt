-- The definitions of a history that goes on, computed on a worked one.
use Rattle.std.proofs.Common.{◌≡◌, ℕ, pos, true, [], ◌∷◌, refl, Some, None}
use Rattle.book.specs.Continuation.{Floor, closed, all_moments, first_entries, continued}
use Rattle.book.specs.History.{Reserved, Sealed, Deposited, Calibrated, Held, Granted, Installed, ReservationValue}
use Rattle.book.specs.History.{CalibrationValue, HoldValue, InstalledValue, History, greatest_serial, last_gen_time}
use Rattle.book.specs.{History.is_held, Readers.Account}

abbrev reserved : ℕ → ReservationValue
reserved serial = record {
  serial = serial;
  account = 97 ∷ [];
  gen_time = serial;
  policy = 136 ∷ [];
  algorithm = 136 ∷ [];
  digest = 1 ∷ [];
  request = 2 ∷ [];
  tst = serial ∷ [];
}

abbrev calibrated : ℕ → CalibrationValue
calibrated reading = record { reading = pos reading; offset = pos 0; uncertainty = 1 }

abbrev hold : ℕ → ℕ → HoldValue
hold from to = record { from = pos from; to = pos to }

abbrev identity : ℕ → InstalledValue
identity octet = record { certificate = octet ∷ []; chain = [] }

-- the last stamp is a deposit's; two identities were installed since
abbrev worked : History
worked =
    Installed (identity 9) ∷ Installed (identity 8) ∷ Granted 4 (Account (98 ∷ [])) ∷ Held (hold 30 40)
    ∷ Deposited (record { serial = 4; owner = 97 ∷ []; reference = 3 ∷ []; bytes = 5 ∷ [] }) (6 ∷ [])
    ∷ Calibrated (calibrated 7) ∷ Reserved (reserved 4) ∷ Held (hold 10 20) ∷ Installed (identity 7)
    ∷ Sealed 2 (6 ∷ []) ∷ Reserved (reserved 2) ∷ Installed (identity 6) ∷ Calibrated (calibrated 3) ∷ []

entries_worked : first_entries None worked
    ≡ Calibrated (calibrated 7) ∷ Held (hold 10 20) ∷ Held (hold 30 40) ∷ Installed (identity 7) ∷ Reserved (reserved 4)
    ∷ Sealed 4 (6 ∷ []) ∷ Installed (identity 9) ∷ []
entries_worked = refl

-- a book that was closed goes on so too
closed_worked : first_entries None (closed worked) ≡ first_entries None worked
closed_worked = refl

once_worked : closed (closed worked) ≡ Held all_moments ∷ worked
once_worked = refl

abbrev floor : Floor
floor = record { serial = 2000; gen_time = 50; tst = 8 ∷ [] }

-- a void stamp above those that may have been given
above_worked : first_entries (Some floor) worked
    ≡ Calibrated (calibrated 7) ∷ Held (hold 10 20) ∷ Held (hold 30 40) ∷ Installed (identity 7)
    ∷ Reserved (record (reserved 4) { serial = 2000; gen_time = 50; tst = 8 ∷ [] }) ∷ Installed (identity 9) ∷ []
above_worked = refl

greatest_worked : greatest_serial (continued (Some floor) worked) ≡ 2000
greatest_worked = refl

last_worked : last_gen_time (continued (Some floor) worked) ≡ Some 50
last_worked = refl

held_worked : is_held (pos 35) (continued None (closed worked)) ≡ true
held_worked = refl

-- no identity was installed since the last stamp, which is void, so it stands once
abbrev under_one : History
under_one = Reserved (reserved 3) ∷ Installed (identity 7) ∷ []

one_worked : first_entries None under_one ≡ Installed (identity 7) ∷ Reserved (reserved 3) ∷ []
one_worked = refl

-- nothing was stamped
abbrev unstamped : History
unstamped = Installed (identity 7) ∷ Installed (identity 6) ∷ []

unstamped_worked : first_entries None unstamped ≡ Installed (identity 7) ∷ []
unstamped_worked = refl

empty_worked : first_entries None [] ≡ []
empty_worked = refl
