-- Numbers from 0 to 2 ^ 63 - 1, by their contents octets.
use Rattle.std.proofs.Common.{◌≡◌, ℕ, zero, suc, ◌+◌, ◌*◌, ◌^◌, ◌<◌, ◌≤◌, Bool, true, false, cond, ltb, ℤ, pos, List}
use Rattle.std.proofs.Common.{[], ◌∷◌, length, take, get_or, Some, None, refl, ap, ◌∙◌, arith}
use Rattle.std.specs.{Int.Digits.number_from_digits, Int.Digits.number_from_digits_after, Option.option_and_then}
use Rattle.std.proofs.lemmas.Int.Digits.{number_lt, number_after_lt}
use Rattle.std.proofs.lemmas.{Bool.Decides.nat_tests, Bool.leb-true, List.length-take-le}
use Rattle.std.proofs.Math.Nat.{pow-le-pow_right, pow-suc, mul-le-mul_right}
use Rattle.der.specs.{Node.AreOctets, Number.is_shortest, Number.twos_value}
use Rattle.der.proofs.Octets.{AreOctets-take, AreOctets-at}
use Rattle.tsp.specs.{Parser.integer_value_of, auxiliary.TstParser.natural, auxiliary.TstParser.natural_of}

-- fewer than eight octets are a number below 2 ^ 56
pub prefix_small : (os : List ℕ) (i n : ℕ) → ((k : ℕ) → get_or os k 0 < 256) → i < length os → length os ≤ 8
    → n ≡ number_from_digits 256 (take i os) → n < 72057594037927936
prefix_small os i n bytes inside short e =
    let bound = number_lt 256 (take i os) (AreOctets-take i os (AreOctets-at os bytes)) in
    let size : 256 ^ length (take i os) ≤ 256 ^ 7 =
    pow-le-pow_right {n = 256} (omega arith) {i = length (take i os)} {j = 7}
    (omega (arith, length-take-le i os (omega arith))) in
    omega (arith, e, bound, size)

after_one : (n d k x : ℕ) → (n * 256 + d) * 256 ^ k ≤ x → n * 256 ^ suc k ≤ x
after_one n d k x h = omega (arith, h, ap (λ y. n * y) (pow-suc 256 k))

after_ge : (n : ℕ) (ds : List ℕ) → n * 256 ^ length ds ≤ number_from_digits_after 256 n ds
after_ge n [] = omega arith
after_ge n (d ∷ ds) = after_one n d (length ds) _ (after_ge (n * 256 + d) ds)

large : (first second : ℕ) (others : List ℕ) → 128 ≤ first * 256 + second → 7 ≤ length others
    → 9223372036854775808 ≤ number_from_digits 256 (first ∷ second ∷ others)
large first second others high long =
    let least = after_ge ((0 * 256 + first) * 256 + second) others in
    let size : 256 ^ 7 ≤ 256 ^ length others =
    pow-le-pow_right {n = 256} (omega arith) {i = 7} {j = length others} long in
    let product : 128 * 256 ^ length others ≤ (first * 256 + second) * 256 ^ length others =
    mul-le-mul_right (256 ^ length others) high in
    omega (arith, least, size, product)

natural_large : (n : ℕ) → 9223372036854775808 ≤ n → natural (pos n) ≡ None
unfolding natural
natural_large n large = let test : ltb n 9223372036854775808 ≡ false = grind (arith, nat_tests) in rw (test) refl

natural_small : (n : ℕ) → n < 9223372036854775808 → natural (pos n) ≡ Some n
unfolding natural
natural_small n small = let test : ltb n 9223372036854775808 ≡ true = grind (arith, nat_tests) in rw (test) refl

twos_positive : (first : ℕ) (others : List ℕ) → first < 128
    → twos_value (first ∷ others) ≡ pos (number_from_digits 256 (first ∷ others))
twos_positive first others small = let test : ltb first 128 ≡ true = grind (arith, nat_tests) in rw (test) refl

natural_negative : (first : ℕ) (others : List ℕ) → 128 ≤ first → natural (twos_value (first ∷ others)) ≡ None
unfolding natural
natural_negative first others big = let test : ltb first 128 ≡ false = grind (arith, nat_tests) in rw (test) refl

if_shortest : (b : Bool) (z : ℤ) → (b ≡ true → natural z ≡ None) → option_and_then natural (cond b (Some z) None) ≡ None
if_shortest true z h = h refl
if_shortest false z h = refl

pub natural_of-others : (os : List ℕ) → is_shortest os ≡ false → natural_of os ≡ None
unfolding natural_of integer_value_of
natural_of-others os e = rw (e) refl

-- a negative number
pub natural_of-negative : (first : ℕ) (others : List ℕ) → 128 ≤ first → natural_of (first ∷ others) ≡ None
unfolding natural_of integer_value_of
natural_of-negative first others big =
    if_shortest (is_shortest (first ∷ others)) (twos_value (first ∷ others)) (λ q. natural_negative first others big)

shortest_front : (first second : ℕ) (others : List ℕ) → is_shortest (first ∷ second ∷ others) ≡ true
    → 128 ≤ first * 256 + second
shortest_front zero second others e = omega (arith, leb-true 128 second e)
shortest_front (suc first) second others e = omega arith

-- a number of 2 ^ 63 or more
pub natural_of-long : (first : ℕ) (others : List ℕ) → first < 128 → 8 ≤ length others
    → natural_of (first ∷ others) ≡ None
unfolding natural_of integer_value_of
natural_of-long first [] small long = absurd (omega arith)
natural_of-long first (second ∷ others) small long =
    if_shortest (is_shortest (first ∷ second ∷ others)) (twos_value (first ∷ second ∷ others)) (λ q.
    ap natural (twos_positive first (second ∷ others) small)
    ∙ natural_large (number_from_digits 256 (first ∷ second ∷ others))
    (large first second others (shortest_front first second others q) (omega arith)))

below : (first : ℕ) (others : List ℕ) → AreOctets others → first < 128 → length others ≤ 7
    → number_from_digits 256 (first ∷ others) < 9223372036854775808
below first others octets small short =
    let bound = number_after_lt 256 (0 * 256 + first) others octets in
    let size : 256 ^ length others ≤ 256 ^ 7 =
    pow-le-pow_right {n = 256} (omega arith) {i = length others} {j = 7} short in
    let product : (first + 1) * 256 ^ length others ≤ 128 * 256 ^ length others =
    mul-le-mul_right (256 ^ length others) (omega arith) in
    omega (arith, bound, size, product)

-- a number from 0 to 2 ^ 63 - 1
pub natural_of-some : (first : ℕ) (others : List ℕ) → is_shortest (first ∷ others) ≡ true → AreOctets others
    → first < 128 → length others ≤ 7 → natural_of (first ∷ others) ≡ Some (number_from_digits 256 (first ∷ others))
unfolding natural_of integer_value_of
natural_of-some first others shortest octets small short =
    ap (λ b. option_and_then natural (cond b (Some (twos_value (first ∷ others))) None)) shortest
    ∙ ap natural (twos_positive first others small)
    ∙ natural_small (number_from_digits 256 (first ∷ others)) (below first others octets small short)

-- the same of octets by their places
pub by_negative : (os : List ℕ) → 1 ≤ length os → 128 ≤ get_or os 0 0 → natural_of os ≡ None
by_negative [] some big = absurd (omega arith)
by_negative (first ∷ others) some big = natural_of-negative first others big

pub by_long : (os : List ℕ) → get_or os 0 0 < 128 → 8 < length os → natural_of os ≡ None
by_long [] small long = absurd (omega arith)
by_long (first ∷ others) small long = natural_of-long first others small (omega arith)

pub by_some : (os : List ℕ) → ((k : ℕ) → get_or os k 0 < 256) → 1 ≤ length os → is_shortest os ≡ true
    → get_or os 0 0 < 128 → length os ≤ 8 → natural_of os ≡ Some (number_from_digits 256 os)
by_some [] bytes some shortest small short = absurd (omega arith)
by_some (first ∷ others) bytes some shortest small short =
    natural_of-some first others shortest (AreOctets-at (first ∷ others) bytes).1 small (omega arith)

pub ruleset natural_laws = (natural_of-others, by_negative, by_long, by_some)
