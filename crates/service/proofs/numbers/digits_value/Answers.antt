use Rattle.std.proofs.Common.{◌≡◌, ℕ, ◌+◌, ◌*◌, ◌<◌, ◌≤◌, ◌^◌, List, length, take, get_or, arith, sym}
use Rattle.std.proofs.{Common.ap, Common.◌∙◌, Common.add-one, Common.lit<, Math.Nat.pow-suc, Math.Nat.pow-le-pow_right}
use Rattle.std.proofs.{lemmas.Bool.Decides.nat_tests, lemmas.Int.Digits.digits_value_more}
use Rattle.std.proofs.{lemmas.List.Sums.AllPass-from_list_all, lemmas.Str.digit_value_digit}
use Rattle.std.specs.Char.{digit_value, is_ascii_digit}
use Rattle.std.specs.{Str.Parse.digits_value, Int.IsInRange, List.list_all, Prelude.true}
use Rattle.service.proofs.numbers.digits_value.Goals as goal

in_range : (c : ℕ) → is_ascii_digit c ≡ true → IsInRange 48 57 c
in_range c is = grind (arith, nat_tests)

digit_range : (ds : List ℕ) (i : ℕ) → list_all is_ascii_digit ds ≡ true → i < length ds
    → IsInRange 48 57 (get_or ds i 0)
digit_range ds i all within = in_range (get_or ds i 0) (AllPass-from_list_all is_ascii_digit ds all i 0 within)

-- one more digit
more : (v i d : ℕ) → v < 10 ^ i → d ≤ 9 → v * 10 + d < 10 ^ (i + 1)
more v i d below few = rw (add-one, pow-suc) (omega (arith, below, few))

-- up to eighteen digits and one more
fits : (v i d : ℕ) → v < 10 ^ i → i < 19 → d ≤ 9 → v * 10 + d < 18446744073709551616
fits v i d below short few =
    let at_most : i ≤ 18 = omega arith in
    let most : 10 ^ i ≤ 10 ^ 18 = pow-le-pow_right {n = 10} (lit< tt) at_most in
    omega (arith, below, most, few)

pub overflow_mul-value : goal.overflow_mul-value
overflow_mul-value c =
    let sum : c.loop-digit.value * 10 + 0 < 18446744073709551616 =
    fits c.loop-digit.value c.loop-digit.digit-index 0 c.loop-digit.invariant.1 (omega arith) (omega arith) in
    omega (arith, sum)

pub overflow_add-value : goal.overflow_add-value
overflow_add-value c =
    let digit = digit_range c.args.digits.now c.loop-digit.digit-index c.requires.digits (omega arith) in
    let sum : c.loop-digit.value * 10 + c.from.result < 18446744073709551616 =
    fits c.loop-digit.value c.loop-digit.digit-index c.from.result c.loop-digit.invariant.1 (omega arith)
    (omega (arith, c.from.ensures, digit)) in
    omega (arith, sum)

pub loop-digit-preserved : goal.loop-digit-preserved
loop-digit-preserved c =
    let digits = c.args.digits.now in
    let i = c.loop-digit.digit-index in
    let digit = digit_range digits i c.requires.digits (omega arith) in
    let value : digit_value (get_or digits i 0) + 48 ≡ get_or digits i 0 =
    digit_value_digit (get_or digits i 0) digit in
    let same : c.from.result ≡ digit_value (get_or digits i 0) = omega (arith, value, c.from.ensures) in (
      ap (λ v. v * 10 + c.from.result) c.loop-digit.invariant.0
          ∙ ap (λ d. digits_value 10 (take i digits) * 10 + d) same ∙ sym (digits_value_more 10 digits i (omega arith)),
      more c.loop-digit.value i c.from.result c.loop-digit.invariant.1 (omega (arith, c.from.ensures, digit)),
    )
