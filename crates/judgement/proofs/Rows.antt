-- The definitions, computed on rows: a clock that was calibrated at its 1.2th second, and again at its 1.9th.
use Rattle.std.proofs.Common.{◌≡◌, ℕ, pos, List, [], ◌∷◌, drop, codes, Some, None, true, false, refl, arith}
use Rattle.std.proofs.lemmas.Int.{ints}
use Rattle.policy.specs.Record.{CounterValue, PolicyValue}
use Rattle.book.specs.History.{CalibrationValue, Calibrated, History, Reserved, ReservationValue, Sealed}
use Rattle.book.specs.{History.stamps_between, Rows.StampRow}
use Rattle.judgement.specs.Readings.{evidence_in, IsReadUnder, is_held_by}
use Rattle.judgement.specs.{Journeys.row_in, Journeys.rows_before, Past.before_of}

abbrev counter : CounterValue
counter = record {
  accuracy_us = 1_000_000;
  fraction_digits = 0;
  ordering = false;
  drift_ppb = 1_000;
  max_age_us = 60_000_000;
  anonymous = None;
  tsa_name = false;
}

abbrev first : CalibrationValue
first = record { reading = pos 1_200_000; offset = pos 0; uncertainty = 100 }

abbrev second : CalibrationValue
second = record { reading = pos 1_900_000; offset = pos 0; uncertainty = 100 }

-- a reading between them has the genTime of its second
reading_between : IsReadUnder counter 1_000_000 first (Some second) (pos 1_300_000)
reading_between = record {
  since = omega (arith, ints);
  until = omega (arith, ints);
  counted = omega (arith, ints);
  now = 1_300_000;
  is_now = refl;
  rounded = refl;
}

-- one before the first, or after the second, isn't under the first
reading_before : IsReadUnder counter 1_000_000 first (Some second) (pos 1_100_000) → ⊥
reading_before k = let since = k.since in omega (arith, ints, since)

reading_after : IsReadUnder counter 2_000_000 first (Some second) (pos 2_000_000) → ⊥
reading_after k = let until = k.until in omega (arith, ints, until)

-- a hold has its first moment, and not its last bound
held_at_first : is_held_by (record { from = pos 1_000_000; to = pos 1_300_000 } ∷ []) (pos 1_000_000) ≡ true
held_at_first = refl

free_at_last : is_held_by (record { from = pos 1_000_000; to = pos 1_300_000 } ∷ []) (pos 1_300_000) ≡ false
free_at_last = refl

-- ---- the rows before a stamp

abbrev reserved : ℕ → List ℕ → ℕ → ReservationValue
reserved serial account gen_time = record {
  serial = serial;
  account = account;
  gen_time = gen_time;
  policy = [];
  algorithm = [];
  digest = [];
  request = [];
  tst = [];
}

-- two accounts on the first day, and one of them again on the second
abbrev history : History
history =
    Reserved (reserved 4 (codes "a") 86_400_000_000) ∷ Sealed 3 [] ∷ Reserved (reserved 3 (codes "a") 86_399_000_000)
    ∷ Calibrated second ∷ Reserved (reserved 2 (codes "b") 2_000_000) ∷ Reserved (reserved 1 (codes "a") 1_000_000)
    ∷ Calibrated first ∷ []

abbrev row : ReservationValue → StampRow
row r = row_in history r

-- the table has them by number, each behind those before it
rows_are : stamps_between 1 4 history ≡ rows_before history history
rows_are = refl

before_third : rows_before history (drop 3 history)
    ≡ row (reserved 1 (codes "a") 1_000_000) ∷ row (reserved 2 (codes "b") 2_000_000) ∷ []
before_third = refl

-- the third has one of its account on its day before it, and the fourth none on the second day
third : before_of (rows_before history (drop 3 history)) (row (reserved 3 (codes "a") 86_399_000_000))
    ≡ record { last_gen_time = Some 2_000_000; count = 1 }
third = refl

fourth : before_of (rows_before history (drop 1 history)) (row (reserved 4 (codes "a") 86_400_000_000))
    ≡ record { last_gen_time = Some 86_399_000_000; count = 0 }
fourth = refl

-- the calibrations come in the order in which they were added
calibrations_are : (file : PolicyValue) → (evidence_in file history).calibrations ≡ first ∷ second ∷ []
calibrations_are file = refl
