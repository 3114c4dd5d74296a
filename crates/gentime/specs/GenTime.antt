-- Moments, and the genTime of a time-stamp (RFC 3161 2.4.2): a GeneralizedTime in DER (X.690 11.7).
use Rattle.std.specs.Prelude.{◌≡◌, ℕ, ◌<◌, ◌≤◌, ◌+◌, ◌-◌, ◌*◌, ◌/◌, ◌%◌, ◌^◌, ◌==◌, List, [], ◌∷◌, ◌++◌, length}
use Rattle.std.specs.{Prelude.if◌then◌else◌, Char.IsAsciiDigit, List.flat_map, List.AllByRecursion}
use Rattle.gentime.specs.Calendar.{IsDate, civil_date}

-- 9999-12-31T23:59:59.999999Z, in microseconds since 1970-01-01T00:00:00Z without leap seconds
abbrev pub last_moment : ℕ
last_moment = 253402300799999999

-- a moment rounded down to that many decimal digits of the fraction of its second
abbrev pub round_down : ℕ → ℕ → ℕ
round_down digits moment = moment / 10 ^ (6 - digits) * 10 ^ (6 - digits)

-- the parts of a time, whether or not there is such a time; the fraction has the octets of its digits, from the tenths
-- on
pub record GeneralizedTime : Type 0 where
  pub year : ℕ
  pub month : ℕ
  pub day : ℕ
  pub hour : ℕ
  pub minute : ℕ
  pub second : ℕ
  pub fraction : List ℕ

-- the octet of a decimal digit
abbrev pub digit : ℕ → ℕ
digit n = 0x30 + n

abbrev pub two_digits : ℕ → List ℕ
two_digits n = digit (n / 10) ∷ digit (n % 10) ∷ []

-- a point before the digits of a fraction, where there are any (X.690 11.7.4)
abbrev pub point_and : List ℕ → List ℕ
point_and [] = []
point_and (first ∷ others) = 0x2E ∷ first ∷ others

-- the numbers of two digits: of the century and the year in it, and of the other parts down to the second
abbrev pub pairs_of : GeneralizedTime → List ℕ
pairs_of time =
    time.year / 100 ∷ time.year % 100 ∷ time.month ∷ time.day ∷ time.hour ∷ time.minute ∷ time.second ∷ []

-- YYYYMMDDhhmmss, the fraction, and Z (X.690 11.7.1 and 11.7.2)
unfoldable pub spelling : GeneralizedTime → List ℕ
spelling time = flat_map two_digits (pairs_of time) ++ (point_and time.fraction ++ 0x5A ∷ [])

-- a digit before digits that end in no zero; a zero before none is left away
abbrev pub digit_before : ℕ → List ℕ → List ℕ
digit_before octet [] = if octet == digit 0 then [] else octet ∷ []
digit_before octet (next ∷ others) = octet ∷ next ∷ others

-- digits without the zeros at their end (X.690 11.7.3)
abbrev pub without_trailing_zeros : List ℕ → List ℕ
without_trailing_zeros [] = []
without_trailing_zeros (octet ∷ octets) = digit_before octet (without_trailing_zeros octets)

-- the six digits of so many microseconds
abbrev pub six_digits : ℕ → List ℕ
six_digits micros = flat_map two_digits (micros / 10_000 ∷ micros / 100 % 100 ∷ micros % 100 ∷ [])

-- the digits of a fraction of so many microseconds
abbrev pub fraction_of : ℕ → List ℕ
fraction_of micros = without_trailing_zeros (six_digits micros)

-- digits after a point, of which the last is no zero, or none
abbrev pub IsFraction : List ℕ → Type 0
IsFraction octets = AllByRecursion IsAsciiDigit octets × (without_trailing_zeros octets ≡ octets)

-- parts that the form of a GeneralizedTime has room for, whether or not there is such a time: numbers of four and two
-- digits, and a fraction
pub record HasParts (time : GeneralizedTime) : Type 0 where
  pub year : time.year < 10_000
  pub month : time.month < 100
  pub day : time.day < 100
  pub hour : time.hour < 100
  pub minute : time.minute < 100
  pub second : time.second < 100
  pub fraction : IsFraction time.fraction

-- the octets have the form of a GeneralizedTime in DER, with these parts, whether or not there is such a time
pub record HasForm (octets : List ℕ) (time : GeneralizedTime) : Type 0 where
  pub formed : HasParts time
  pub spelled : octets ≡ spelling time

-- the calendar has the date, and the day has the time
pub record IsTime (time : GeneralizedTime) : Type 0 where
  pub date : IsDate time.year time.month time.day
  pub hour : time.hour < 24
  pub minute : time.minute < 60
  pub second : time.second < 60

-- 1970 or later, in whole microseconds
pub record IsCounted (time : GeneralizedTime) : Type 0 where
  pub year : 1970 ≤ time.year
  pub micros : length time.fraction ≤ 6

-- the day number of a moment: 1970-01-01 is day 0, and a day has 86,400,000,000 microseconds
abbrev pub day_of : ℕ → ℕ
day_of moment = moment / 86_400_000_000

-- the parts of the moment: its date, its time of day, and its fraction of a second
unfoldable pub time_of : ℕ → GeneralizedTime
time_of moment =
    let date = civil_date (day_of moment) in
    let seconds = moment % 86_400_000_000 / 1_000_000 in
    record {
      year = date.year;
      month = date.month;
      day = date.day;
      hour = seconds / 3_600;
      minute = seconds / 60 % 60;
      second = seconds % 60;
      fraction = fraction_of (moment % 1_000_000);
    }

-- the genTime of a moment to that many digits, as octets
unfoldable pub text_of : ℕ → ℕ → List ℕ
text_of digits moment = spelling (time_of (round_down digits moment))
