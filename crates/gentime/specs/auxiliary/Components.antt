-- The parts of a time as the code holds them.
use Rattle.std.specs.Prelude.{◌≡◌, pos}
use Rattle.gentime.specs.{declared.components.Components.Components, GenTime.GeneralizedTime}
use Rattle.jiff_core.specs.declared.civil.date.Date.{Date}

-- the same parts, without where their fraction lies in memory
abbrev pub plain : Components → GeneralizedTime
plain parts =
    record {
      year = parts.year;
      month = parts.month;
      day = parts.day;
      hour = parts.hour;
      minute = parts.minute;
      second = parts.second;
      fraction = parts.fraction.now;
    }

-- the date is the time's
abbrev pub IsDateOf : GeneralizedTime → Date → Type 0
IsDateOf time date = (date.year ≡ pos time.year) × (date.month ≡ time.month) × (date.day ≡ time.day)
