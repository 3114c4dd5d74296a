-- The digits of a fraction and its microseconds name each other.
use Rattle.std.proofs.Common.{◌≡◌, ℕ, ◌-◌, ◌+◌, ◌*◌, ◌/◌, ◌%◌, ◌<◌, ◌≤◌, eqb, List, [], ◌∷◌, ◌++◌, length, get_or, drop}
use Rattle.std.proofs.Common.{add-one, drop-cons, refl, ap, ◌∙◌, arith}
use Rattle.std.proofs.lemmas.{Bool.cond_both, Bool.eqb-true, Nat.mul-le}
use Rattle.std.specs.{Char.IsAsciiDigit, List.AllByRecursion}
use Rattle.gentime.specs.{auxiliary.Fraction.worth, auxiliary.Fraction.micros_of, GenTime.IsFraction}
use Rattle.gentime.specs.GenTime.{digit, two_digits, digit_before, without_trailing_zeros, six_digits, fraction_of}

worth-digit_before : (unit octet : ℕ) (octets : List ℕ)
    → worth unit (digit_before octet octets) ≡ worth unit (octet ∷ octets)
worth-digit_before unit octet [] =
    cond_both (eqb octet 48) [] (octet ∷ []) (λ xs. worth unit xs ≡ (octet - 48) * unit + 0)
    (λ e. let same = eqb-true octet 48 e in rw same (omega arith)) (λ _. refl)
worth-digit_before unit octet (next ∷ octets) = refl

-- zeros at the end are worth nothing
pub worth-without_trailing_zeros : (unit : ℕ) (octets : List ℕ)
    → worth unit (without_trailing_zeros octets) ≡ worth unit octets
worth-without_trailing_zeros unit [] = refl
worth-without_trailing_zeros unit (octet ∷ octets) =
    worth-digit_before unit octet (without_trailing_zeros octets)
    ∙ ap (λ n. (octet - 48) * unit + n) (worth-without_trailing_zeros (unit / 10) octets)

pub micros_of-six_digits : (micros : ℕ) → micros < 1_000_000 → micros_of (six_digits micros) ≡ micros
micros_of-six_digits micros h = omega arith

pub micros_of-fraction_of : (micros : ℕ) → micros < 1_000_000 → micros_of (fraction_of micros) ≡ micros
micros_of-fraction_of micros h =
    worth-without_trailing_zeros 100_000 (six_digits micros) ∙ micros_of-six_digits micros h

-- digits are worth less than ten units, and nothing of no unit
pub worth_bound : (unit : ℕ) (octets : List ℕ) → AllByRecursion IsAsciiDigit octets → worth unit octets ≤ 10 * unit - 1
worth_bound unit [] h = omega arith
worth_bound unit (octet ∷ octets) h =
    omega (
      arith,
      worth_bound (unit / 10) octets h.1,
      mul-le (octet - 48) unit 9 unit (omega (arith, h.0.1)) (omega arith),
      h.0,
    )

pub micros_of_bound : (octets : List ℕ) → AllByRecursion IsAsciiDigit octets → micros_of octets < 1_000_000
micros_of_bound octets h = omega (arith, worth_bound 100_000 octets h)

abbrev IsSix : ℕ → ℕ → ℕ → ℕ → ℕ → ℕ → Type 0
IsSix a b c d e f = AllByRecursion IsAsciiDigit (a ∷ b ∷ c ∷ d ∷ e ∷ f ∷ [])

-- a number of six digits by pairs
in_pairs : (a b c d e f n : ℕ) → b < 10 → c < 10 → d < 10 → e < 10 → f < 10
    → n ≡ a * 100_000 + (b * 10_000 + (c * 1_000 + (d * 100 + (e * 10 + (f * 1 + 0))))) → (n / 10_000 ≡ a * 10 + b)
    × (n / 100 % 100 ≡ c * 10 + d) × (n % 100 ≡ e * 10 + f)
in_pairs a b c d e f n hb hc hd he hf same = (omega arith, omega arith, omega arith)

pair_digits : (a b : ℕ) → IsAsciiDigit a → IsAsciiDigit b → two_digits ((a - 48) * 10 + (b - 48)) ≡ a ∷ b ∷ []
pair_digits a b h k =
    let high : digit (((a - 48) * 10 + (b - 48)) / 10) ≡ a = omega arith in
    let low : digit (((a - 48) * 10 + (b - 48)) % 10) ≡ b = omega arith in
    rw (high, low)

six_digits_by_pairs : (n high middle low : ℕ) → n / 10_000 ≡ high → n / 100 % 100 ≡ middle → n % 100 ≡ low
    → six_digits n ≡ two_digits high ++ (two_digits middle ++ (two_digits low ++ []))
six_digits_by_pairs n high middle low p q r = rw (p, q, r)

six_digits_of : (a b c d e f : ℕ) → IsSix a b c d e f
    → six_digits (micros_of (a ∷ b ∷ c ∷ d ∷ e ∷ f ∷ [])) ≡ a ∷ b ∷ c ∷ d ∷ e ∷ f ∷ []
six_digits_of a b c d e f (ha, (hb, (hc, (hd, (he, (hf, _)))))) =
    let n = in_pairs (a - 48) (b - 48) (c - 48) (d - 48) (e - 48) (f - 48) (micros_of (a ∷ b ∷ c ∷ d ∷ e ∷ f ∷ []))
    (omega arith) (omega arith) (omega arith) (omega arith) (omega arith) refl in
    six_digits_by_pairs _ _ _ _ n.0 n.1 n.2
    ∙ ap (λ xs. xs ++ (two_digits ((c - 48) * 10 + (d - 48)) ++ (two_digits ((e - 48) * 10 + (f - 48)) ++ [])))
    (pair_digits a b ha hb)
    ∙ ap (λ xs. a ∷ b ∷ (xs ++ (two_digits ((e - 48) * 10 + (f - 48)) ++ []))) (pair_digits c d hc hd)
    ∙ ap (λ xs. a ∷ b ∷ c ∷ d ∷ (xs ++ [])) (pair_digits e f he hf)

zero_digit : IsAsciiDigit 48
zero_digit = (omega arith, omega arith)

filled : (octets : List ℕ) (a b c d e f : ℕ) → IsSix a b c d e f
    → micros_of octets ≡ micros_of (a ∷ b ∷ c ∷ d ∷ e ∷ f ∷ []) → without_trailing_zeros octets ≡ octets
    → without_trailing_zeros (a ∷ b ∷ c ∷ d ∷ e ∷ f ∷ []) ≡ without_trailing_zeros octets
    → fraction_of (micros_of octets) ≡ octets
filled octets a b c d e f h same kept zeros =
    ap fraction_of same ∙ ap without_trailing_zeros (six_digits_of a b c d e f h) ∙ zeros ∙ kept

-- a fraction of at most six digits is written as it was: zeros after it fill six, and are left away again
pub fraction_of-micros_of : (octets : List ℕ) → IsFraction octets → length octets ≤ 6
    → fraction_of (micros_of octets) ≡ octets
fraction_of-micros_of [] (h, kept) k = refl
fraction_of-micros_of (a ∷ []) ((ha, h), kept) k =
    filled (a ∷ []) a 48 48 48 48 48 (ha, (zero_digit, (zero_digit, (zero_digit, (zero_digit, (zero_digit, tt))))))
    (omega arith) kept refl
fraction_of-micros_of (a ∷ b ∷ []) ((ha, (hb, h)), kept) k =
    filled (a ∷ b ∷ []) a b 48 48 48 48 (ha, (hb, (zero_digit, (zero_digit, (zero_digit, (zero_digit, tt))))))
    (omega arith) kept refl
fraction_of-micros_of (a ∷ b ∷ c ∷ []) ((ha, (hb, (hc, h))), kept) k =
    filled (a ∷ b ∷ c ∷ []) a b c 48 48 48 (ha, (hb, (hc, (zero_digit, (zero_digit, (zero_digit, tt))))))
    (omega arith) kept refl
fraction_of-micros_of (a ∷ b ∷ c ∷ d ∷ []) ((ha, (hb, (hc, (hd, h)))), kept) k =
    filled (a ∷ b ∷ c ∷ d ∷ []) a b c d 48 48 (ha, (hb, (hc, (hd, (zero_digit, (zero_digit, tt))))))
    (omega arith) kept refl
fraction_of-micros_of (a ∷ b ∷ c ∷ d ∷ e ∷ []) ((ha, (hb, (hc, (hd, (he, h))))), kept) k =
    filled (a ∷ b ∷ c ∷ d ∷ e ∷ []) a b c d e 48 (ha, (hb, (hc, (hd, (he, (zero_digit, tt)))))) (omega arith) kept refl
fraction_of-micros_of (a ∷ b ∷ c ∷ d ∷ e ∷ f ∷ []) ((ha, (hb, (hc, (hd, (he, (hf, h)))))), kept) k =
    filled (a ∷ b ∷ c ∷ d ∷ e ∷ f ∷ []) a b c d e f (ha, (hb, (hc, (hd, (he, (hf, tt)))))) refl kept refl
fraction_of-micros_of (a ∷ b ∷ c ∷ d ∷ e ∷ f ∷ g ∷ octets) h k = absurd (omega arith)

-- the first of the digits that are left, and those behind it
pub worth-drop : (unit : ℕ) (octets : List ℕ) (i : ℕ) → i < length octets
    → worth unit (drop i octets) ≡ (get_or octets i 0 - 48) * unit + worth (unit / 10) (drop (i + 1) octets)
worth-drop unit octets i h = rw (add-one, drop-cons octets i 0)
