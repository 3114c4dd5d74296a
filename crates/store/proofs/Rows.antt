-- The definitions, computed on a worked history.
use Rattle.book.specs.Rows.{DepositRow}
use Rattle.store.proofs.Words.{Account, Calibrated, Deposited, Granted, Held, History, List, None, ReservationValue}
use Rattle.store.proofs.Words.{Reserved, Revoked, Sealed, Some, [], codes, count_of_day, deposit_under, false}
use Rattle.store.proofs.Words.{greatest_serial, is_held, is_visible, last_gen_time, latest_calibration, listed, negsuc}
use Rattle.store.proofs.Words.{pos, refl, seen_by, token_of, true, viewer_of, ℕ, ◌∷◌, ◌≡◌}
use Rattle.store.specs.TablesOf.{tables_of}

abbrev alice : List ℕ
alice = codes "alice"

abbrev bob : List ℕ
bob = codes "bob"

abbrev reserved : ℕ → ℕ → ReservationValue
reserved serial gen_time = record {
  serial = serial;
  account = alice;
  gen_time = gen_time;
  policy = 136 ∷ 55 ∷ 1 ∷ [];
  algorithm = 136 ∷ [];
  digest = 1 ∷ [];
  request = 2 ∷ [];
  tst = 3 ∷ [];
}

abbrev first_deposit : DepositRow
first_deposit = record { serial = 3; owner = alice; reference = codes "plan-7"; bytes = 97 ∷ 98 ∷ 99 ∷ [] }

-- two reservations on the first day, one void, a third on the next that is a deposit's, granted to bob, revoked and
-- granted again
abbrev worked : History
worked =
    Granted 3 (Account bob) ∷ Revoked 3 (Account bob) ∷ Revoked 3 (Account alice) ∷ Granted 3 (Account bob)
    ∷ Deposited first_deposit (9 ∷ [])
    ∷ Reserved (reserved 3 86400000000)
    ∷ Held record { from = pos 7; to = pos 9 } ∷ Reserved (reserved 2 86399999999) ∷ Sealed 1 (8 ∷ [])
    ∷ Reserved (reserved 1 5)
    ∷ Calibrated record { reading = pos 5; offset = negsuc 0; uncertainty = 2 }
    ∷ Calibrated record { reading = pos 1; offset = pos 0; uncertainty = 0 } ∷ []

greatest_worked : greatest_serial worked ≡ 3
greatest_worked = refl

last_worked : last_gen_time worked ≡ Some 86400000000
last_worked = refl

count_worked : count_of_day alice 0 worked ≡ 2
count_worked = refl

count_other : count_of_day bob 0 worked ≡ 0
count_other = refl

calibration_worked : latest_calibration worked ≡ Some (record { reading = pos 5; offset = negsuc 0; uncertainty = 2 })
calibration_worked = refl

held_worked : is_held (pos 8) worked ≡ true
held_worked = refl

held_end : is_held (pos 9) worked ≡ false
held_end = refl

token_worked : token_of 2 worked ≡ None
token_worked = refl

seen_worked : seen_by (viewer_of bob []) 3 worked ≡ Some first_deposit
seen_worked = refl

hidden_worked : is_visible (viewer_of bob []) 1 worked ≡ false
hidden_worked = refl

listed_worked : listed (viewer_of bob []) worked
    ≡ record { number = 3; owner = alice; reference = codes "plan-7"; gen_time = 86400000000 } ∷ []
listed_worked = refl

under_worked : deposit_under alice (codes "plan-7") worked ≡ Some first_deposit
under_worked = refl

tallies_worked : (tables_of worked).tallies
    ≡ record { account = alice; day = 1; count = 1 } ∷ record { account = alice; day = 0; count = 2 } ∷ []
tallies_worked = refl

readers_worked : (tables_of worked).readers ≡ record { serial = 3; name = bob } ∷ []
readers_worked = refl

numbers_worked : (tables_of worked).calibrations
    ≡ record { n = 2; reading = pos 5; offset = negsuc 0; uncertainty = 2 }
    ∷ record { n = 1; reading = pos 1; offset = pos 0; uncertainty = 0 } ∷ []
numbers_worked = refl
