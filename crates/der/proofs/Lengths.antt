-- The digits of a number in base 256, and the length octets that they are, case by case below 2 ^ 24.
use Rattle.std.proofs.Common.{◌≡◌, ℕ, ◌+◌, ◌/◌, ◌%◌, ◌<◌, ◌≤◌, ◌^◌, [], ◌∷◌, ◌++◌, length, rules, ap, ◌∙◌, arith}
use Rattle.std.{specs.Int.Digits.digits_of, proofs.lemmas.Bool.Decides.nat_tests}
use Rattle.std.proofs.lemmas.Int.Digits.{digits_of_step, length-digits_of-le, length-digits_of_step}
use Rattle.der.{specs.Node.length_octets, proofs.Digits.digits_of_digit}

pub digits_of_last : (n : ℕ) → 256 ≤ n → digits_of 256 n ≡ digits_of 256 (n / 256) ++ (n % 256 ∷ [])
digits_of_last n low = digits_of_step 256 n (omega arith) (omega arith)

pub digit_count_last : (n : ℕ) → 256 ≤ n → length (digits_of 256 n) ≡ length (digits_of 256 (n / 256)) + 1
digit_count_last n low = length-digits_of_step 256 n (omega arith) (omega arith)

pub one_digit : (n : ℕ) → 0 < n → n < 256 → digits_of 256 n ≡ n ∷ []
one_digit n some small = digits_of_digit 256 n (omega arith) small some

pub digit_count_one : (n : ℕ) → 0 < n → n < 256 → length (digits_of 256 n) ≡ 1
digit_count_one n some small = ap length (one_digit n some small)

pub digit_count_few : (n : ℕ) → n < 2 ^ 64 → length (digits_of 256 n) ≤ 8
digit_count_few n small = length-digits_of-le 256 8 n (omega arith) small

two_digits : (n : ℕ) → 256 ≤ n → n < 65536 → digits_of 256 n ≡ n / 256 ∷ n % 256 ∷ []
two_digits n low high =
    digits_of_last n (omega arith)
    ∙ ap (λ front. front ++ (n % 256 ∷ [])) (one_digit (n / 256) (omega arith) (omega arith))

three_digits : (n : ℕ) → 65536 ≤ n → n < 16777216 → digits_of 256 n ≡ n / 256 / 256 ∷ n / 256 % 256 ∷ n % 256 ∷ []
three_digits n low high =
    digits_of_last n (omega arith)
    ∙ ap (λ front. front ++ (n % 256 ∷ [])) (two_digits (n / 256) (omega arith) (omega arith))

pub length_octets_short : (n : ℕ) → n < 128 → length_octets n ≡ n ∷ []
unfolding length_octets
length_octets_short n small = grind (arith, nat_tests)

pub length_octets_long : (n : ℕ) → 128 ≤ n → length_octets n ≡ (128 + length (digits_of 256 n)) ∷ digits_of 256 n
unfolding length_octets
length_octets_long n low = search (rules, nat_tests)

pub length_octets_one : (n : ℕ) → 128 ≤ n → n < 256 → length_octets n ≡ 129 ∷ n % 256 ∷ []
length_octets_one n low high =
    length_octets_long n low ∙ ap (λ digits. (128 + length digits) ∷ digits)
    (one_digit n (omega arith) high ∙ ap (λ digit. digit ∷ []) (omega arith))

pub length_octets_two : (n : ℕ) → 256 ≤ n → n < 65536 → length_octets n ≡ 130 ∷ n / 256 % 256 ∷ n % 256 ∷ []
length_octets_two n low high =
    length_octets_long n (omega arith) ∙ ap (λ digits. (128 + length digits) ∷ digits)
    (two_digits n low high ∙ ap (λ digit. digit ∷ n % 256 ∷ []) (omega arith))

pub length_octets_three : (n : ℕ) → 65536 ≤ n → n < 16777216
    → length_octets n ≡ 131 ∷ n / 65536 % 256 ∷ n / 256 % 256 ∷ n % 256 ∷ []
length_octets_three n low high =
    length_octets_long n (omega arith) ∙ ap (λ digits. (128 + length digits) ∷ digits)
    (three_digits n low high ∙ ap (λ digit. digit ∷ n / 256 % 256 ∷ n % 256 ∷ []) (omega arith))

-- one to three octets follow
pub length_of_digits : (n : ℕ) → 128 ≤ n → n < 2 ^ 24 → (0 < length (digits_of 256 n)) × (length (digits_of 256 n) ≤ 3)
length_of_digits n low high = (
  omega (arith, length-digits_of_step 256 n (omega arith) (omega arith)),
  length-digits_of-le 256 3 n (omega arith) high,
)
