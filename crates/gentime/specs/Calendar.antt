-- The proleptic Gregorian calendar (ISO 8601) from 1970 on, one day after the other.
use Rattle.std.specs.Prelude.{ℕ, zero, suc, ◌+◌, ◌%◌, not, Bool, ◌&&◌, ◌||◌, ◌==◌, nat_lt, if◌then◌else◌}
use Rattle.std.specs.Int.{IsInRange}

-- a date: its month is counted from 1 for January, and its day from 1
pub record CivilDate : Type 0 where
  pub year : ℕ
  pub month : ℕ
  pub day : ℕ

-- every fourth year, but of the centuries only every fourth
abbrev pub is_leap_year : ℕ → Bool
is_leap_year year = (year % 4 == 0) && (not (year % 100 == 0) || (year % 400 == 0))

-- thirty days have September, April, June and November
abbrev pub days_in_month : ℕ → ℕ → ℕ
days_in_month year month =
    if month == 2 then (if is_leap_year year then 29 else 28)
    else (if (month == 4) || (month == 6) || (month == 9) || (month == 11) then 30 else 31)

-- the calendar has this date
abbrev pub IsDate : ℕ → ℕ → ℕ → Type 0
IsDate year month day = IsInRange 1 12 month × IsInRange 1 (days_in_month year month) day

-- the next day: of the month, else the first of the next month, else the first of the next year
abbrev pub day_after : CivilDate → CivilDate
day_after date =
    if nat_lt date.day (days_in_month date.year date.month)
    then record { year = date.year; month = date.month; day = date.day + 1 }
    else (if nat_lt date.month 12
    then record { year = date.year; month = date.month + 1; day = 1 }
    else record { year = date.year + 1; month = 1; day = 1 })

-- the date with that day number: day 0 is 1970-01-01, and each day is followed by the next one
unfoldable pub civil_date : ℕ → CivilDate
civil_date zero = record { year = 1970; month = 1; day = 1 }
civil_date (suc day) = day_after (civil_date day)
