-- The clock: what a reading stands for after a calibration, how far the true moment may be away from it, and when a
-- token may be given (RFC 3628 7.3.1: no token while the clock is out of its accuracy). All quantities are whole
-- microseconds without bound, and moments count from 1970-01-01T00:00:00Z.
use Rattle.std.specs.Prelude.{◌≡◌, ℕ, ◌<◌, ◌≤◌, ◌+◌, ◌-◌, ◌*◌, ◌/◌, ◌^◌, ℤ, pos, negsuc, ◌+ℤ◌, ◌-ℤ◌, ◌≤ℤ◌, Bool, true}
use Rattle.std.specs.Prelude.{false, Option, Some, None}
use Rattle.gentime.specs.GenTime.{last_moment, round_down}
use Rattle.policy.specs.Record.{CounterValue}
use Rattle.decide.specs.declared.facts.{Calibration.Calibration, ClockFacts.ClockFacts}
use Rattle.decide.specs.declared.clock.ClockState.{ClockState, TheVariants.Good, TheVariants.Bad}

-- the moment that a reading stands for
abbrev pub now_at : ℤ → Calibration → ℤ
now_at reading calibration = reading +ℤ calibration.offset

-- a number, and 0 for one below it
abbrev pub at_least_zero : ℤ → ℕ
at_least_zero (pos n) = n
at_least_zero (negsuc n) = 0

-- how long ago the calibration was
abbrev pub elapsed : ℤ → Calibration → ℕ
elapsed reading calibration = at_least_zero (reading -ℤ calibration.reading)

-- a quotient rounded up
abbrev pub divided_up : ℕ → ℕ → ℕ
divided_up n divisor = (n + (divisor - 1)) / divisor

-- how far the true moment may be away from now: the uncertainty, and what the clock may have drifted since, in parts of
-- 10^9
abbrev pub deviation : CounterValue → ℤ → Calibration → ℕ
deviation counter reading calibration =
    calibration.uncertainty + divided_up (elapsed reading calibration * counter.drift_ppb) 1_000_000_000

-- what the last fraction digit counts, in microseconds: a genTime is rounded down by less than that
abbrev pub step : CounterValue → ℕ
step counter = 10 ^ (6 - counter.fraction_digits)

-- the genTime of a moment: rounded down to the fraction digits
abbrev pub gen_time : CounterValue → ℕ → ℕ
gen_time counter now = round_down counter.fraction_digits now

-- A genTime isn't before the last one; where tokens are ordered by it, it is after that.
abbrev pub Follows : Bool → Option ℕ → ℕ → Type 0
Follows ordering None moment = Unit {0}
Follows true (Some last) moment = last < moment
Follows false (Some last) moment = last ≤ moment

-- A token may be given.
pub record IsGood (counter : CounterValue) (facts : ClockFacts) : Type 0 where
  -- there is a calibration, it isn't after the reading, and it isn't too old
  pub calibration : Calibration
  pub calibrated : facts.calibration ≡ Some calibration
  pub after : calibration.reading ≤ℤ facts.reading
  pub age : elapsed facts.reading calibration ≤ counter.max_age_us
  -- the true moment is within the accuracy of the genTime
  pub accurate : deviation counter facts.reading calibration + (step counter - 1) ≤ counter.accuracy_us
  -- now is a moment that a genTime can state, and it isn't held
  pub now : ℕ
  pub stated : now_at facts.reading calibration ≡ pos now
  pub statable : now ≤ last_moment
  pub free : facts.held ≡ false
  -- the last reserved genTime comes first
  pub follows : Follows counter.ordering facts.last_gen_time (gen_time counter now)

-- a token may be given with this genTime
abbrev pub IsGoodAt : CounterValue → ClockFacts → ℕ → Type 0
IsGoodAt counter facts moment = (good : IsGood counter facts) × (moment ≡ gen_time counter good.now)

abbrev pub IsState : CounterValue → ClockFacts → ClockState → Type 0
IsState counter facts (Good moment) = IsGoodAt counter facts moment
IsState counter facts Bad = IsGood counter facts → ⊥

-- two moments are at most so far away from each other
pub record IsWithin (distance : ℕ) (one other : ℤ) : Type 0 where
  pub below : one ≤ℤ (other +ℤ pos distance)
  pub above : other ≤ℤ (one +ℤ pos distance)

-- Each moment that is at most the deviation away from now is at most the accuracy away from the genTime.
abbrev pub KeepsAccuracy : CounterValue → ClockFacts → ℕ → Type 0
KeepsAccuracy counter facts moment =
    (calibration : Calibration) → facts.calibration ≡ Some calibration
    → (true_moment : ℤ)
    → IsWithin (deviation counter facts.reading calibration) (now_at facts.reading calibration) true_moment
    → IsWithin counter.accuracy_us (pos moment) true_moment
