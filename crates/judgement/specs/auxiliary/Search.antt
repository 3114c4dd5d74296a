-- What the searches and comparisons of the code find: stepping stones of the proofs, no definitions.
use Rattle.std.specs.Prelude.{◌≡◌, ◌≤◌, ◌<◌, ◌≤ℤ◌, ◌+ℤ◌, ℕ, ℤ, pos, true, false, List, Option, Some, None, is_some}
use Rattle.der.specs.ObjectIdentifier.{oid_content}
use Rattle.gentime.specs.GenTime.{day_of}
use Rattle.policy.specs.Record.{CounterValue}
use Rattle.tsp.specs.{Request.RequestValue, Tst.TstValue}
use Rattle.book.specs.{History.CalibrationValue, History.HoldValue, Rows.StampRow}
use Rattle.decide.specs.{Clock.now_at, Clock.IsGood, Verdict.PlanValue, declared.facts.ClockFacts.ClockFacts}
use Rattle.judgement.specs.Readings.{EvidenceValue, IsReadUnder, IsOfSome, IsClockUnder, calibration_of, is_held_by}

-- ---- readings

-- the least moment that is neither before the calibration's own nor before the genTime
pub record IsLeast (c : CalibrationValue) (stated least : ℕ) : Type 0 where
  pub since : (c.reading +ℤ c.offset) ≤ℤ pos least
  pub stated_since : stated ≤ least
  pub least_is : (n : ℕ) → stated ≤ n → (c.reading +ℤ c.offset) ≤ℤ pos n → least ≤ n

-- the first of them that isn't held
pub record IsFirstFree (holds : List HoldValue) (stated : ℕ) (c : CalibrationValue) (now : ℕ) : Type 0 where
  pub since : (c.reading +ℤ c.offset) ≤ℤ pos now
  pub stated_since : stated ≤ now
  pub free : is_held_by holds (pos now) ≡ false
  pub first : (n : ℕ) → stated ≤ n → (c.reading +ℤ c.offset) ≤ℤ pos n → n < now → is_held_by holds (pos n) ≡ true

-- a reading under the calibration whose moment isn't held
pub record IsFreeReading (counter : CounterValue) (holds : List HoldValue) (stated : ℕ) (c : CalibrationValue)
    (next : Option CalibrationValue) (reading : ℤ) : Type 0 where
  pub under : IsReadUnder counter stated c next reading
  pub free : is_held_by holds (now_at reading (calibration_of c)) ≡ false

-- the first of them, or there is none
abbrev pub IsFirstReading : CounterValue → List HoldValue → ℕ → CalibrationValue → Option CalibrationValue → Option ℤ
    → Type 0
IsFirstReading counter holds stated c next None =
    (reading : ℤ) → IsFreeReading counter holds stated c next reading → ⊥
IsFirstReading counter holds stated c next (Some first) =
    IsFreeReading counter holds stated c next first
    × ((reading : ℤ) → IsFreeReading counter holds stated c next reading → first ≤ℤ reading)

-- the clock is good by these facts, which it had under the calibration
abbrev pub IsGoodUnder : EvidenceValue → Option ℕ → ℕ → ClockFacts → CalibrationValue → Option CalibrationValue → Type 0
IsGoodUnder e last stated clock c next = IsClockUnder e last stated clock c next × IsGood e.file.counter clock

-- facts by which the clock is good under the calibration, or there are none
abbrev pub IsGoodClockUnder : EvidenceValue → Option ℕ → ℕ → CalibrationValue → Option CalibrationValue
    → Option ClockFacts → Type 0
IsGoodClockUnder e last stated c next None = (clock : ClockFacts) → IsGoodUnder e last stated clock c next → ⊥
IsGoodClockUnder e last stated c next (Some clock) = IsGoodUnder e last stated clock c next

-- facts by which the clock is good, under one of the calibrations, or there are none
abbrev pub IsGoodClock : EvidenceValue → Option ℕ → ℕ → List CalibrationValue → Option ClockFacts → Type 0
IsGoodClock e last stated calibrations None =
    (clock : ClockFacts) → IsOfSome (IsGoodUnder e last stated clock) calibrations → ⊥
IsGoodClock e last stated calibrations (Some clock) = IsOfSome (IsGoodUnder e last stated clock) calibrations

-- ---- what of a row a plan makes, besides what is compared of each row

pub record HasColumns (plan : PlanValue) (stamp : StampRow) : Type 0 where
  pub gen_time : stamp.gen_time ≡ plan.gen_time
  pub day : stamp.day ≡ day_of plan.gen_time
  pub policy : stamp.policy ≡ oid_content plan.policy

pub record IsAnswerBy (counter : CounterValue) (request : RequestValue) (plan : PlanValue) (tst : TstValue)
    : Type 0 where
  pub policy : tst.policy ≡ plan.policy
  pub accuracy : tst.accuracy ≡ counter.accuracy_us
  pub ordering : tst.ordering ≡ counter.ordering
  pub named : is_some tst.tsa ≡ counter.tsa_name
  pub nonce : tst.nonce ≡ request.nonce
  pub extensions : tst.extensions ≡ request.extensions
