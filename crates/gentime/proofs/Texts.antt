-- The digits of a fraction without the zeros at its end, and what every text has.
use Rattle.std.proofs.Common.{◌≡◌, ◌≢◌, ℕ, ◌-◌, ◌/◌, ◌%◌, eqb, pos, length-append, ◌+◌, ◌<◌, ◌≤◌, List, [], ◌∷◌, ◌++◌}
use Rattle.std.proofs.Common.{length, get_or, take, refl, sym, ap, ◌∙◌, arith}
use Rattle.std.proofs.lemmas.{Bool.ne_eqb, Bool.cond_both, Bool.Decides.nat_tests, List.take_more}
use Rattle.std.specs.{Char.IsAsciiDigit, List.AllByRecursion}
use Rattle.gentime.{specs.Calendar.civil_date, proofs.Days.civil_date_is, proofs.Days.civil_date_year}
use Rattle.gentime.specs.GenTime.{last_moment, round_down, GeneralizedTime, digit_before, point_and}
use Rattle.gentime.specs.GenTime.{without_trailing_zeros, six_digits, fraction_of, HasParts, spelling, time_of, text_of}
use Rattle.jiff_core.proofs.CalendarLemmas.{days_in_month_bounds}

pub without_trailing_zeros-zero : (xs : List ℕ) → without_trailing_zeros (xs ++ 48 ∷ []) ≡ without_trailing_zeros xs
without_trailing_zeros-zero [] = refl
without_trailing_zeros-zero (x ∷ xs) = ap (digit_before x) (without_trailing_zeros-zero xs)

pub without_trailing_zeros-other : (xs : List ℕ) (last : ℕ) → last ≢ 48
    → without_trailing_zeros (xs ++ last ∷ []) ≡ xs ++ last ∷ []
without_trailing_zeros-other [] last h = rw (ne_eqb last 48 h)
without_trailing_zeros-other (x ∷ []) last h = ap (digit_before x) (without_trailing_zeros-other [] last h)
without_trailing_zeros-other (x ∷ y ∷ ys) last h = ap (digit_before x) (without_trailing_zeros-other (y ∷ ys) last h)

-- the front of the digits, one octet longer
take_last : (xs : List ℕ) (n d : ℕ) → 0 < n → n ≤ length xs → take n xs ≡ take (n - 1) xs ++ get_or xs (n - 1) d ∷ []
take_last xs n d h k =
    let same : n - 1 + 1 ≡ n = omega arith in rw same at (take_more xs (n - 1) d (omega arith))

pub without_trailing_zeros-take_zero : (xs : List ℕ) (n d : ℕ) → 0 < n → n ≤ length xs → get_or xs (n - 1) d ≡ 48
    → without_trailing_zeros (take (n - 1) xs) ≡ without_trailing_zeros (take n xs)
without_trailing_zeros-take_zero xs n d h k e =
    sym (ap without_trailing_zeros (take_last xs n d h k ∙ ap (λ x. take (n - 1) xs ++ x ∷ []) e)
    ∙ without_trailing_zeros-zero (take (n - 1) xs))

pub without_trailing_zeros-take_other : (xs : List ℕ) (n d : ℕ) → 0 < n → n ≤ length xs → get_or xs (n - 1) d ≢ 48
    → without_trailing_zeros (take n xs) ≡ take n xs
without_trailing_zeros-take_other xs n d h k ne =
    let e = take_last xs n d h k in
    rw e (without_trailing_zeros-other (take (n - 1) xs) (get_or xs (n - 1) d) ne)

-- digits that end in no zero, with one more before them, end in none
digit_before-kept : (x : ℕ) (ys : List ℕ) → without_trailing_zeros ys ≡ ys
    → without_trailing_zeros (digit_before x ys) ≡ digit_before x ys
digit_before-kept x [] h = grind (arith, nat_tests)
digit_before-kept x (y ∷ ys) h = ap (digit_before x) h

AllByRecursion-digit_before : (P : ℕ → Type 0) (x : ℕ) (ys : List ℕ) → P x → AllByRecursion P ys
    → AllByRecursion P (digit_before x ys)
AllByRecursion-digit_before P x [] p h = cond_both (eqb x 48) [] (x ∷ []) (AllByRecursion P) (λ _. tt) (λ _. (p, tt))
AllByRecursion-digit_before P x (y ∷ ys) p h = (p, h)

length-digit_before : (x : ℕ) (ys : List ℕ) → length (digit_before x ys) ≤ length ys + 1
length-digit_before x [] = cond_both (eqb x 48) [] (x ∷ []) (λ xs. length xs ≤ 1) (λ _. omega arith) (λ _. omega arith)
length-digit_before x (y ∷ ys) = omega arith

-- what is left has no zero at its end
pub without_trailing_zeros-twice : (xs : List ℕ)
    → without_trailing_zeros (without_trailing_zeros xs) ≡ without_trailing_zeros xs
without_trailing_zeros-twice [] = refl
without_trailing_zeros-twice (x ∷ xs) =
    digit_before-kept x (without_trailing_zeros xs) (without_trailing_zeros-twice xs)

pub AllByRecursion-without_trailing_zeros : (P : ℕ → Type 0) (xs : List ℕ) → AllByRecursion P xs
    → AllByRecursion P (without_trailing_zeros xs)
AllByRecursion-without_trailing_zeros P [] h = tt
AllByRecursion-without_trailing_zeros P (x ∷ xs) h =
    AllByRecursion-digit_before P x (without_trailing_zeros xs) h.0 (AllByRecursion-without_trailing_zeros P xs h.1)

pub length-without_trailing_zeros : (xs : List ℕ) → length (without_trailing_zeros xs) ≤ length xs
length-without_trailing_zeros [] = omega arith
length-without_trailing_zeros (x ∷ xs) =
    omega (arith, length-without_trailing_zeros xs, length-digit_before x (without_trailing_zeros xs))

-- digits of which the last is no zero
pub ends_in_no_zero : (octets front : List ℕ) (last : ℕ) → octets ≡ front ++ last ∷ [] → last ≢ 48
    → without_trailing_zeros octets ≡ octets
ends_in_no_zero octets front last e h = rw e (without_trailing_zeros-other front last h)

pub ends_in_zero : (octets front : List ℕ) (last : ℕ) → octets ≡ front ++ last ∷ [] → last ≡ 48
    → without_trailing_zeros octets ≡ octets → ⊥
ends_in_zero octets front last e zero kept =
    let shorter : without_trailing_zeros octets ≡ without_trailing_zeros front =
    rw (e, zero) (without_trailing_zeros-zero front) in
    omega (
      arith,
      length-without_trailing_zeros front,
      ap length shorter,
      ap length kept,
      ap length e,
      length-append front (last ∷ []),
    )

-- the digits of a fraction, at most six
pub fraction_digits : (micros : ℕ) → micros < 1_000_000 → AllByRecursion IsAsciiDigit (fraction_of micros)
fraction_digits micros h = AllByRecursion-without_trailing_zeros IsAsciiDigit (six_digits micros) (
  (omega arith, omega arith),
  (
    (omega arith, omega arith),
    (
      (omega arith, omega arith),
      (
        (omega arith, omega arith),
        ((omega arith, omega arith), ((omega arith, omega arith), tt)),
      ),
    ),
  ),
)

pub length-fraction_of : (micros : ℕ) → length (fraction_of micros) ≤ 6
length-fraction_of micros = length-without_trailing_zeros (six_digits micros)

-- the parts of a moment can be stated
pub time_of_formed : (moment : ℕ) → moment ≤ last_moment → HasParts (time_of moment)
unfolding time_of
time_of_formed moment h =
    let day = civil_date_is (moment / 86_400_000_000) in
    record {
      year = civil_date_year (moment / 86_400_000_000) (omega arith);
      month = omega (arith, day.exists.0.1);
      day = omega (
        arith,
        day.exists.1.1,
        days_in_month_bounds (pos (civil_date (moment / 86_400_000_000)).year)
            (civil_date (moment / 86_400_000_000)).month,
      );
      hour = omega arith;
      minute = omega arith;
      second = omega arith;
      fraction = (
        fraction_digits (moment % 1_000_000) (omega arith),
        without_trailing_zeros-twice (six_digits (moment % 1_000_000)),
      );
    }

octets_of_digits : (xs : List ℕ) → AllByRecursion IsAsciiDigit xs
    → AllByRecursion (λ octet. octet < 256) (xs ++ 90 ∷ [])
octets_of_digits [] h = (omega arith, tt)
octets_of_digits (x ∷ xs) h = (omega (arith, h.0.1), octets_of_digits xs h.1)

octets_of_fraction : (xs : List ℕ) → AllByRecursion IsAsciiDigit xs
    → AllByRecursion (λ octet. octet < 256) (point_and xs ++ 90 ∷ [])
octets_of_fraction [] h = octets_of_digits [] h
octets_of_fraction (x ∷ xs) h = (omega arith, octets_of_digits (x ∷ xs) h)

length-octets_of_fraction : (xs : List ℕ) → (1 ≤ length (point_and xs ++ 90 ∷ []))
    × (length (point_and xs ++ 90 ∷ []) ≤ length xs + 2)
length-octets_of_fraction [] = (omega arith, omega arith)
length-octets_of_fraction (x ∷ xs) = (
  omega (arith, length-append xs (90 ∷ [])),
  omega (arith, length-append xs (90 ∷ [])),
)

-- a text of parts that can be stated has octets
pub spelling_octets : (time : GeneralizedTime) → HasParts time → AllByRecursion (λ octet. octet < 256) (spelling time)
unfolding spelling
spelling_octets time h = (
  omega (arith, h.year),
  (
    omega (arith, h.year),
    (
      omega (arith, h.year),
      (
        omega (arith, h.year),
        (
          omega (arith, h.month),
          (
            omega (arith, h.month),
            (
              omega (arith, h.day),
              (
                omega (arith, h.day),
                (
                  omega (arith, h.hour),
                  (
                    omega (arith, h.hour),
                    (
                      omega (arith, h.minute),
                      (
                        omega (arith, h.minute),
                        (
                          omega (arith, h.second),
                          (
                            omega (arith, h.second),
                            octets_of_fraction time.fraction h.fraction.0,
                          ),
                        ),
                      ),
                    ),
                  ),
                ),
              ),
            ),
          ),
        ),
      ),
    ),
  ),
)

pub length-spelling : (time : GeneralizedTime) → (15 ≤ length (spelling time))
    × (length (spelling time) ≤ length time.fraction + 16)
unfolding spelling
length-spelling time =
    let e = length-octets_of_fraction time.fraction in
    (omega (arith, e), omega (arith, e))

pub round_down_bound : (digits moment : ℕ) → round_down digits moment ≤ moment
round_down_bound digits moment = grind arith

pub length-fraction_of_time : (moment : ℕ) → length (time_of moment).fraction ≤ 6
unfolding time_of
length-fraction_of_time moment = length-fraction_of (moment % 1_000_000)

-- and no more than 22 octets
pub spelling_short : (moment : ℕ) → (15 ≤ length (spelling (time_of moment)))
    × (length (spelling (time_of moment)) ≤ 22)
spelling_short moment =
    let e = length-spelling (time_of moment) in
    (e.0, omega (arith, e.1, length-fraction_of_time moment))

pub text_of_short : (digits moment : ℕ) → moment ≤ last_moment → (15 ≤ length (text_of digits moment))
    × (length (text_of digits moment) ≤ 22) × AllByRecursion (λ octet. octet < 256) (text_of digits moment)
unfolding text_of
text_of_short digits moment h =
    let bound = round_down_bound digits moment in
    let e = spelling_short (round_down digits moment) in
    (e.0, e.1, spelling_octets _ (time_of_formed (round_down digits moment) (omega arith)))
