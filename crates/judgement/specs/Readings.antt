-- Which readings the clock may have had when a stamp was reserved, by what the tables keep: the calibrations, in the
-- order in which they were added, and the stamp's genTime.
use Rattle.std.specs.Prelude.{◌≡◌, ◌⊎◌, ◌&&◌, ℕ, ℤ, pos, ◌≤ℤ◌, int_le, int_lt, Bool, false, List, [], ◌∷◌}
use Rattle.std.specs.{Prelude.Option, Prelude.Some, Prelude.None, Prelude.IfSome, Prelude.reverse, List.list_any}
use Rattle.policy.specs.Record.{CounterValue, PolicyValue}
use Rattle.book.specs.History.{CalibrationValue, History, HoldValue, calibrations, first_of, holds}
use Rattle.book.specs.{Identities.identities, Rows.InstalledRow, Sound.greatest_number}
use Rattle.decide.specs.{Clock.IsGood, Clock.now_at, Clock.gen_time, declared.facts.Calibration.Calibration}
use Rattle.decide.specs.{declared.facts.ClockFacts.ClockFacts, declared.facts.Facts.Facts}
use Rattle.judgement.specs.declared.evidence.Before.{Before}

-- what stamps are judged by: the record of a policy file, and what the tables keep, in the order in which it was added
pub record EvidenceValue : Type 0 where
  pub file : PolicyValue
  pub calibrations : List CalibrationValue
  pub holds : List HoldValue
  pub identities : List InstalledRow

-- what a history keeps of them, with the record of a policy file
abbrev pub evidence_in : PolicyValue → History → EvidenceValue
evidence_in file b = record {
  file = file;
  calibrations = reverse (calibrations b);
  holds = reverse (holds b);
  identities = identities b;
}

-- the same, if nothing had ever been held
abbrev pub unheld : EvidenceValue → EvidenceValue
unheld e = record e { holds = [] }

-- the calibration, as it is judged
abbrev pub calibration_of : CalibrationValue → Calibration
calibration_of c = record { reading = c.reading; offset = c.offset; uncertainty = c.uncertainty }

-- one of the holds has the moment
abbrev pub is_held_by : List HoldValue → ℤ → Bool
is_held_by holds now = list_any (λ h. int_le h.from now && int_lt now h.to) holds

-- A reading at which the calibration was the latest one: not before its own, nor after that of the one that followed.
-- The moment that it stands for has the genTime, once that is rounded down. A clock counts within 64 bits.
pub record IsReadUnder (counter : CounterValue) (stated : ℕ) (c : CalibrationValue) (next : Option CalibrationValue)
    (reading : ℤ) : Type 0 where
  pub since : c.reading ≤ℤ reading
  pub until : IfSome next (λ n. reading ≤ℤ n.reading)
  pub counted : reading ≤ℤ pos greatest_number
  pub now : ℕ
  pub is_now : now_at reading (calibration_of c) ≡ pos now
  pub rounded : gen_time counter now ≡ stated

-- so it is said of one of the calibrations and of the one that followed, if one did
abbrev pub IsOfSome : (CalibrationValue → Option CalibrationValue → Type 0) → List CalibrationValue → Type 0
IsOfSome P [] = ⊥
IsOfSome P (c ∷ later) = P c (first_of later) ⊎ IsOfSome P later

-- the facts of the clock at a reading
abbrev pub clock_at : List HoldValue → Option ℕ → CalibrationValue → ℤ → ClockFacts
clock_at holds last c reading = record {
  reading = reading;
  calibration = Some (calibration_of c);
  held = is_held_by holds (now_at reading (calibration_of c));
  last_gen_time = last;
}

-- and of a clock that was never calibrated: so it is judged where no reading has the genTime
abbrev pub uncalibrated : ClockFacts
uncalibrated = record { reading = pos 0; calibration = None; held = false; last_gen_time = None }

-- facts of the clock at some reading under the calibration
abbrev pub IsClockUnder : EvidenceValue → Option ℕ → ℕ → ClockFacts → CalibrationValue → Option CalibrationValue
    → Type 0
IsClockUnder e last stated clock c next =
    (reading : ℤ) × IsReadUnder e.file.counter stated c next reading × (clock ≡ clock_at e.holds last c reading)

abbrev pub IsCalibratedClock : EvidenceValue → Option ℕ → ℕ → ClockFacts → Type 0
IsCalibratedClock e last stated clock = IsOfSome (IsClockUnder e last stated clock) e.calibrations

-- The facts by which a stamp of this genTime may have been decided on: those of the clock at such a reading, or without
-- any, and what the rows before it say of its account's day.
pub record IsPossible (e : EvidenceValue) (before : Before) (stated : ℕ) (facts : Facts) : Type 0 where
  pub clock : IsCalibratedClock e before.last_gen_time stated facts.clock ⊎ (facts.clock ≡ uncalibrated)
  pub count : facts.count ≡ before.count

-- facts that may have been found, by which the clock is good if it is by any of these
pub record ComesFurthest (e : EvidenceValue) (before : Before) (stated : ℕ) (facts : Facts) : Type 0 where
  pub possible : IsPossible e before stated facts
  pub furthest : (others : Facts) → IsPossible e before stated others → IsGood e.file.counter others.clock
      → IsGood e.file.counter facts.clock
