-- What a history says of the clock and of an account's day, at a reading of the clock.
use Rattle.std.specs.Prelude.{ℕ, ℤ, pos, negsuc, nat_le, Bool, false, ◌&&◌, Option, Some, None, option_map}
use Rattle.gentime.specs.GenTime.{last_moment}
use Rattle.policy.specs.Record.{AccountValue, PolicyValue}
use Rattle.book.specs.History.{History, CalibrationValue, latest_calibration, is_held, last_gen_time, count_of_day}
use Rattle.book.specs.History.{day_of}
use Rattle.decide.specs.{Clock.now_at, Clock.at_least_zero, Clock.gen_time, declared.facts.Calibration.Calibration}
use Rattle.decide.specs.{declared.facts.ClockFacts.ClockFacts, declared.facts.Facts.Facts}

abbrev pub calibration_of : CalibrationValue → Calibration
calibration_of c = record { reading = c.reading; offset = c.offset; uncertainty = c.uncertainty }

-- the moment that the reading stands for
abbrev pub now_with : ℤ → Option Calibration → Option ℤ
now_with reading calibration = option_map (now_at reading) calibration

abbrev pub now_in : ℤ → Option CalibrationValue → Option ℤ
now_in reading latest = now_with reading (option_map calibration_of latest)

-- a hold holds moments that a genTime can state
abbrev pub is_held_at : Option ℤ → History → Bool
is_held_at None b = false
is_held_at (Some (pos now)) b = nat_le now last_moment && is_held (pos now) b
is_held_at (Some (negsuc now)) b = false

-- the genTime that the reading stands for, and some moment where there is none
abbrev pub gen_time_of : PolicyValue → Option ℤ → ℕ
gen_time_of file None = 0
gen_time_of file (Some now) = gen_time file.counter (at_least_zero now)

abbrev pub gen_time_in : PolicyValue → ℤ → History → ℕ
gen_time_in file reading b = gen_time_of file (now_in reading (latest_calibration b))

-- how many reservations the account has on the UTC day of that genTime
abbrev pub count_in : PolicyValue → Option AccountValue → ℤ → History → ℕ
count_in file None reading b = 0
count_in file (Some account) reading b = count_of_day account.name (day_of (gen_time_in file reading b)) b

-- the facts of the clock
abbrev pub clock_of : ℤ → History → ClockFacts
clock_of reading b = record {
  reading = reading;
  calibration = option_map calibration_of (latest_calibration b);
  held = is_held_at (now_in reading (latest_calibration b)) b;
  last_gen_time = last_gen_time b;
}

abbrev pub facts_of : PolicyValue → Option AccountValue → ℤ → History → Facts
facts_of file account reading b = record { clock = clock_of reading b; count = count_in file account reading b }
