-- A moment and the parts of its time name each other.
use Rattle.std.proofs.Common.{◌≡◌, ℕ, ◌+◌, ◌*◌, ◌/◌, ◌%◌, ◌<◌, ◌≤◌, List, refl, sym, ap, ◌∙◌, arith, pos}
use Rattle.gentime.specs.{Calendar.CivilDate, Calendar.civil_date, auxiliary.Fraction.micros_of}
use Rattle.gentime.specs.GenTime.{last_moment, round_down, GeneralizedTime, HasParts, IsTime, IsCounted, HasForm}
use Rattle.gentime.specs.GenTime.{spelling, time_of, text_of}
use Rattle.gentime.proofs.{Days.civil_date_is, Pairs.stated_once, Texts.time_of_formed, Texts.length-fraction_of_time}
use Rattle.gentime.proofs.Fractions.{micros_of-fraction_of, micros_of_bound, fraction_of-micros_of}
use Rattle.jiff_core.specs.Calendar.{day_count}

-- the moment with that day, second of the day and microsecond
abbrev pub moment_at : ℕ → ℕ → ℕ → ℕ
moment_at day seconds micros = (day * 86_400 + seconds) * 1_000_000 + micros

pub moment_at_bound : (day seconds micros : ℕ) → day ≤ 2_932_896 → seconds < 86_400 → micros < 1_000_000
    → moment_at day seconds micros ≤ last_moment
moment_at_bound day seconds micros d s m = omega arith

moment_at_day : (day seconds micros : ℕ) → seconds < 86_400 → micros < 1_000_000
    → moment_at day seconds micros / 86_400_000_000 ≡ day
moment_at_day day seconds micros s m = omega arith

moment_at_seconds : (day seconds micros : ℕ) → seconds < 86_400 → micros < 1_000_000
    → moment_at day seconds micros % 86_400_000_000 / 1_000_000 ≡ seconds
moment_at_seconds day seconds micros s m = omega arith

moment_at_micros : (day seconds micros : ℕ) → micros < 1_000_000 → moment_at day seconds micros % 1_000_000 ≡ micros
moment_at_micros day seconds micros m = omega arith

-- the second of the day
abbrev pub seconds_of : GeneralizedTime → ℕ
seconds_of time = time.hour * 3_600 + time.minute * 60 + time.second

pub seconds_of_bound : (time : GeneralizedTime) → IsTime time → seconds_of time < 86_400
seconds_of_bound time h = omega arith

same_parts : (year month day hour minute second : ℕ) (fraction : List ℕ) (time : GeneralizedTime) → year ≡ time.year
    → month ≡ time.month → day ≡ time.day → hour ≡ time.hour → minute ≡ time.minute → second ≡ time.second
    → fraction ≡ time.fraction → record {
      year = year;
      month = month;
      day = day;
      hour = hour;
      minute = minute;
      second =
          second;
      fraction = fraction;
    } ≡ time
same_parts year month day hour minute second fraction time a b c d e f g = rw (a, b, c, d, e, f, g)

-- a time that exists is that of the moment that is counted from its parts
pub time_of-moment_at : (time : GeneralizedTime) (day : ℕ) → HasParts time → IsTime time → IsCounted time
    → (civil_date day).year ≡ time.year → (civil_date day).month ≡ time.month → (civil_date day).day ≡ time.day
    → time_of (moment_at day (seconds_of time) (micros_of time.fraction)) ≡ time
unfolding time_of
time_of-moment_at time day formed exists counted year month d =
    let s = seconds_of_bound time exists in
    let m = micros_of_bound time.fraction formed.fraction.0 in
    let day_is = moment_at_day day (seconds_of time) (micros_of time.fraction) s m in
    let seconds_are = moment_at_seconds day (seconds_of time) (micros_of time.fraction) s m in
    let micros_are = moment_at_micros day (seconds_of time) (micros_of time.fraction) m in
    let fraction = fraction_of-micros_of time.fraction formed.fraction counted.micros in
    let hour : seconds_of time / 3_600 ≡ time.hour = omega (arith, exists.minute, exists.second) in
    let minute : seconds_of time / 60 % 60 ≡ time.minute = omega (arith, exists.minute, exists.second) in
    let second : seconds_of time % 60 ≡ time.second = omega (arith, exists.minute, exists.second) in
    rw (day_is, seconds_are, micros_are) (same_parts _ _ _ _ _ _ _ time year month d hour minute second fraction)

-- two days with one date are one day
same_day : (m n : ℕ) → civil_date m ≡ civil_date n → m ≡ n
same_day m n e =
    omega (
      arith,
      (civil_date_is m).count,
      (civil_date_is n).count,
      ap (λ (date : CivilDate). day_count (pos date.year) date.month date.day) e,
    )

-- the parts of a moment's date
abbrev date_of_time : GeneralizedTime → CivilDate
date_of_time time = record { year = time.year; month = time.month; day = time.day }

-- two moments with one time are one moment
pub same_moment : (m n : ℕ) → time_of m ≡ time_of n → m ≡ n
unfolding time_of
same_moment m n e =
    let day = same_day (m / 86_400_000_000) (n / 86_400_000_000) (ap date_of_time e) in
    let seconds = ap seconds_of e in
    let fraction : m % 1_000_000 ≡ n % 1_000_000 = sym (micros_of-fraction_of (m % 1_000_000) (omega arith))
    ∙ ap (λ (time : GeneralizedTime). micros_of time.fraction) e
    ∙ micros_of-fraction_of (n % 1_000_000) (omega arith) in
    omega (arith, day, seconds, fraction)

round_down-six : (moment : ℕ) → round_down 6 moment ≡ moment
round_down-six moment = omega arith

text_of-six : (moment : ℕ) → text_of 6 moment ≡ spelling (time_of moment)
unfolding text_of
text_of-six moment = ap (λ rounded. spelling (time_of rounded)) (round_down-six moment)

-- a moment's text states its time
pub states_time_of : (octets : List ℕ) (moment : ℕ) → moment ≤ last_moment → octets ≡ text_of 6 moment
    → HasForm octets (time_of moment)
states_time_of octets moment h e =
    record { formed = time_of_formed moment h; spelled = e ∙ text_of-six moment }

-- and octets that state the time are the text
pub text_from_time : (octets : List ℕ) (time : GeneralizedTime) (moment : ℕ) → HasForm octets time
    → time_of moment ≡ time → octets ≡ text_of 6 moment
text_from_time octets time moment s e = s.spelled ∙ ap spelling (sym e) ∙ sym (text_of-six moment)

pub time_of_exists : (moment : ℕ) → moment ≤ last_moment → IsTime (time_of moment)
unfolding time_of
time_of_exists moment h =
    record {
      date = (civil_date_is (moment / 86_400_000_000)).exists;
      hour = omega arith;
      minute = omega arith;
      second = omega arith;
    }

year_of_time : (moment : ℕ) → 1970 ≤ (time_of moment).year
unfolding time_of
year_of_time moment = (civil_date_is (moment / 86_400_000_000)).from

pub time_of_counted : (moment : ℕ) → IsCounted (time_of moment)
time_of_counted moment = record { year = year_of_time moment; micros = length-fraction_of_time moment }

-- two moments with one text are one moment
pub same_text : (m n : ℕ) → m ≤ last_moment → n ≤ last_moment → text_of 6 m ≡ text_of 6 n → m ≡ n
same_text m n h k e =
    same_moment m n (stated_once (text_of 6 m) (time_of m) (time_of n) (states_time_of (text_of 6 m) m h refl)
    (states_time_of (text_of 6 m) n k e))

pub text_of_rounded : (digits moment : ℕ) → text_of digits moment ≡ text_of 6 (round_down digits moment)
unfolding text_of
text_of_rounded digits moment =
    ap (λ rounded. spelling (time_of rounded)) (sym (round_down-six (round_down digits moment)))
