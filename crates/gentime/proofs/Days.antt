-- The calendar's date of a day is the one that `jiff_core` gives it.
use Rattle.std.proofs.Common.{◌≡◌, ℕ, zero, suc, ◌+◌, ◌<◌, ◌≤◌, inl, inr, ◌∙◌, arith, ℤ, pos, negsuc, unsigned_abs}
use Rattle.std.proofs.Common.{refl, ◌≤ℤ◌}
use Rattle.std.proofs.lemmas.{Bool.cases_lt, Bool.lt-ltb, Bool.le-ltb, Int.by_lt_z}
use Rattle.gentime.specs.Calendar.{CivilDate, IsDate, days_in_month, day_after, civil_date}
use Rattle.jiff_core.specs.{declared.civil.date.Date.Date, Calendar.day_count, Date.epoch_day}
use Rattle.jiff_core.proofs.{SignedLemmas.signed_arith, DateLemmas.epoch_day_injective}
use Rattle.jiff_core.proofs.CalendarLemmas.{days_from_civil-day_count, day_count-epoch, day_count-day}
use Rattle.jiff_core.proofs.CalendarLemmas.{day_count-next_month, day_count-next_year, day_count-last_of_year}
use Rattle.jiff_core.proofs.CalendarLemmas.{day_count-day_of_year, day_count-end, day_count-later_year}
use Rattle.jiff_core.proofs.CalendarLemmas.{days_in_month_bounds}

-- the calendar has the date, from 1970 on, and it is the one that many days after 1970-01-01
pub record IsDay (day : ℕ) (date : CivilDate) : Type 0 where
  pub from : 1970 ≤ date.year
  pub exists : IsDate date.year date.month date.day
  pub count : day_count (pos date.year) date.month date.day ≡ day + 4_371_953

pub after_in_month : (n y m d : ℕ) → IsDay n (record { year = y; month = m; day = d }) → d < days_in_month y m
    → IsDay (suc n) (record { year = y; month = m; day = d + 1 })
after_in_month n y m d h lt =
    record {
      from = h.from;
      exists = (h.exists.0, (omega arith, omega arith));
      count = omega (arith, h.count, day_count-day (pos y) m d (d + 1) h.exists.1.0 (omega arith));
    }

pub after_month : (n y m d : ℕ) → IsDay n (record { year = y; month = m; day = d }) → days_in_month y m ≤ d → m < 12
    → IsDay (suc n) (record { year = y; month = m + 1; day = 1 })
after_month n y m d h ge lt =
    record {
      from = h.from;
      exists = ((omega arith, omega arith), (omega arith, omega (arith, days_in_month_bounds (pos y) (m + 1))));
      count = omega (
        arith,
        h.count,
        h.exists.1.1,
        day_count-day (pos y) m d 1 h.exists.1.0 (omega arith),
        day_count-next_month (pos y) m h.exists.0.0,
      );
    }

pub after_year : (n y m d : ℕ) → IsDay n (record { year = y; month = m; day = d }) → days_in_month y m ≤ d → 12 ≤ m
    → IsDay (suc n) (record { year = y + 1; month = 1; day = 1 })
after_year n y m d h ge last =
    let december : m ≡ 12 = omega (arith, h.exists.0.1) in
    let count = rw december at h.count in
    let high = rw december at h.exists.1.1 in
    let low = rw december at ge in
    record {
      from = omega (arith, h.from);
      exists = ((omega arith, omega arith), (omega arith, omega arith));
      count = omega (
        arith,
        day_count-day (pos y) 12 d 31 h.exists.1.0 (omega arith),
        day_count-last_of_year (pos y),
        day_count-next_year (pos y) (pos (y + 1)) (omega (arith, signed_arith)) (omega (arith, signed_arith)),
      );
    }

pub day_after_is : (n : ℕ) (date : CivilDate) → IsDay n date → IsDay (suc n) (day_after date)
day_after_is n date h =
    elim (cases_lt date.day (days_in_month date.year date.month)) [
      | inl lt ↦ let test = lt-ltb _ _ lt in rw test (after_in_month n date.year date.month date.day h lt)
      | inr ge ↦ let test = le-ltb _ _ ge in rw test (elim (cases_lt date.month 12) [
        | inl lt ↦ let month = lt-ltb _ _ lt in rw month (after_month n date.year date.month date.day h ge lt)
        | inr last ↦ let month = le-ltb _ _ last in rw month (after_year n date.year date.month date.day h ge last)
      ])
    ]

pub civil_date_is : (n : ℕ) → IsDay n (civil_date n)
unfolding civil_date
civil_date_is zero =
    record {
      from = omega arith;
      exists = ((omega arith, omega arith), (omega arith, omega arith));
      count = day_count-epoch;
    }
civil_date_is (suc n) = day_after_is n (civil_date n) (civil_date_is n)

first_of_later_year : (y : ℕ) → 10_000 ≤ y → 7_304_850 ≤ day_count (pos y) 1 1
first_of_later_year y h =
    elim (cases_lt 10_000 y) [
      | inl lt ↦ omega (
        arith,
        day_count-end,
        day_count-later_year (pos 10_000) (pos y) (omega (arith, signed_arith)) (omega (arith, signed_arith)),
      )
      | inr le ↦ let same : y ≡ 10_000 = omega arith in rw same (omega (arith, day_count-end))
    ]

-- no day up to 9999-12-31 has a later year
pub civil_date_year : (n : ℕ) → n ≤ 2_932_896 → (civil_date n).year < 10_000
civil_date_year n h =
    let is = civil_date_is n in
    elim (cases_lt (civil_date n).year 10_000) [
      | inl lt ↦ lt
      | inr ge ↦ absurd (omega (
        arith,
        is.count,
        is.exists.1.0,
        day_count-day_of_year (pos (civil_date n).year) (civil_date n).month (civil_date n).day is.exists.1.0,
        first_of_later_year (civil_date n).year ge,
      ))
    ]

-- the date that `jiff_core` has for such a day
date_of : (n : ℕ) → n ≤ 2_932_896 → Date
date_of n h =
    record {
      year = pos (civil_date n).year;
      month = (civil_date n).month;
      day = (civil_date n).day;
      year_in = omega (arith, signed_arith, civil_date_year n h);
      month_in = (civil_date_is n).exists.0;
      day_in = (civil_date_is n).exists.1;
    }

-- a date with that day number has the parts of the calendar's date
pub civil_date_of : (d : Date) (n : ℕ) → n ≤ 2_932_896 → epoch_day d ≡ pos n → (d.year ≡ pos (civil_date n).year)
    × (d.month ≡ (civil_date n).month) × (d.day ≡ (civil_date n).day)
unfolding date_of
civil_date_of d n h e =
    epoch_day_injective d (date_of n h)
    (e ∙ omega (
      arith,
      signed_arith,
      (civil_date_is n).count,
      days_from_civil-day_count (pos (civil_date n).year) (civil_date n).month (civil_date n).day,
    ))

-- dates from 1970 on have day numbers from 0 on
pub epoch_day_from_1970 : (d : Date) → pos 1970 ≤ℤ d.year → pos 0 ≤ℤ epoch_day d
epoch_day_from_1970 d h =
    let first : day_count (pos 1970) 1 1 ≤ day_count d.year 1 1 = by_lt_z (pos 1970) d.year
    (λ lt. omega (arith, day_count-later_year (pos 1970) d.year (omega (arith, signed_arith)) lt))
    (λ le. let e : d.year ≡ pos 1970 = omega (arith, signed_arith) in rw e (omega arith)) in
    omega (
      arith,
      signed_arith,
      first,
      day_count-epoch,
      days_from_civil-day_count d.year d.month d.day,
      day_count-day_of_year d.year d.month d.day d.day_in.0,
      d.day_in.0,
    )

pub same_unsigned : (z : ℤ) → pos 0 ≤ℤ z → z ≡ pos (unsigned_abs z)
same_unsigned (pos n) h = refl
same_unsigned (negsuc n) h = absurd (omega (arith, signed_arith))
