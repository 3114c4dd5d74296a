-- Digits in a base, and the number that they write.
use Rattle.std.proofs.Common.{◌≡◌, ℕ, ◌+◌, ◌*◌, ◌%◌, ◌<◌, ◌≤◌, List, [], ◌∷◌, ◌++◌, get_or, refl, sym, ap, ◌∙◌, arith}
use Rattle.std.proofs.Common.{append_assoc}
use Rattle.std.specs.Int.Digits.{digits_of, number_from_digits, number_from_digits_after, AllBelowBase}
use Rattle.std.proofs.lemmas.{Int.Digits.digits_of_step, List.append-nil, Nat.div-mul-add, Nat.mod-mul-add}

-- one more digit at the end
pub digits_of_push : (b n d : ℕ) → 2 ≤ b → d < b → 0 < n * b + d → digits_of b (n * b + d) ≡ digits_of b n ++ d ∷ []
digits_of_push b n d two h some =
    digits_of_step b (n * b + d) two some ∙
    (ap (λ q. digits_of b q ++ ((n * b + d) % b ∷ [])) (div-mul-add n b d h) ∙
    ap (λ r. digits_of b n ++ (r ∷ [])) (mod-mul-add n b d h))

positive : (b n d : ℕ) → 2 ≤ b → 0 < n → 0 < n * b + d
positive b n d two some = grind arith

-- further digits, after those of a number that is not 0
pub digits_of-number_after : (b n : ℕ) (ds : List ℕ) → 2 ≤ b → 0 < n → AllBelowBase b ds
    → digits_of b (number_from_digits_after b n ds) ≡ digits_of b n ++ ds
digits_of-number_after b n [] two some below = sym (append-nil (digits_of b n))
digits_of-number_after b n (d ∷ ds) two some below =
    digits_of-number_after b (n * b + d) ds two (positive b n d two some) below.1 ∙
    (ap (λ front. front ++ ds) (digits_of_push b n d two below.0 (positive b n d two some))
    ∙ append_assoc (digits_of b n) (d ∷ []) ds)

first_digit : (b d : ℕ) → 0 * b + d ≡ d
first_digit b d = omega arith

-- a digit alone
pub digits_of_digit : (b d : ℕ) → 2 ≤ b → d < b → 0 < d → digits_of b d ≡ d ∷ []
digits_of_digit b d two h some =
    ap (digits_of b) (sym (first_digit b d)) ∙ digits_of_push b 0 d two h (omega arith)

-- digits without a leading zero are the digits of the number that they write
pub digits_of-number : (b : ℕ) (ds : List ℕ) → 2 ≤ b → AllBelowBase b ds → 0 < get_or ds 0 0
    → digits_of b (number_from_digits b ds) ≡ ds
digits_of-number b [] two below some = refl
digits_of-number b (d ∷ ds) two below some =
    ap (λ n. digits_of b (number_from_digits_after b n ds)) (first_digit b d) ∙
    (digits_of-number_after b d ds two some below.1 ∙ ap (λ front. front ++ ds) (digits_of_digit b d two below.0 some))
