-- The contents octets of a number: they are its shortest, and its only ones.
use Rattle.std.proofs.Common.{◌≡◌, ℕ, zero, suc, ◌+◌, ◌-◌, ◌*◌, ◌/◌, ◌%◌, ◌^◌, ◌<◌, ◌≤◌, ℤ, pos, negsuc, Bool, true}
use Rattle.std.proofs.Common.{false, cond, ltb, eqb, leb, List, [], ◌∷◌, ◌++◌, length, get_or, refl, sym, ap, subst}
use Rattle.std.proofs.Common.{◌∙◌, ⊎_elim, lit<, arith, append_assoc, reverse, take, drop, IsTrue, ◌↔◌}
use Rattle.std.specs.Int.{Signed.lt_z, Digits.digits_of, Digits.number_from_digits, Digits.number_from_digits_after}
use Rattle.std.proofs.Math.{IntN.nat_abs, Nat.pow-suc}
use Rattle.std.proofs.lemmas.Bool.{true≢false, cases_lt, cases_eq, lt-ltb, le-ltb, cond-true, cond-false, ltb-true}
use Rattle.std.proofs.lemmas.Int.Digits.{digits_of_step, first_digits_of, number_digits_of, all_below_base_digits_of}
use Rattle.std.proofs.lemmas.{Int.Digits.number_after_lt, Bool.Decides.nat_tests, Nat.mul-le}
use Rattle.std.proofs.lemmas.List.{length-map, length_push, reverse-append, take_at}
use Rattle.der.{specs.Node.AreOctets, proofs.Digits.digits_of_digit, proofs.Digits.digits_of-number}
use Rattle.der.specs.Number.{number_content, with_sign, complement, twos_value, IsNumberContent, is_shortest}
use Rattle.der.proofs.DigitsElements.{all-map, all-from_places, same_from_number}

-- the contents of a number that is not negative
abbrev pub magnitude : ℕ → List ℕ
magnitude n = with_sign (digits_of 256 n)

-- ---- one octet more

push_cond : (b : Bool) (ds : List ℕ) (x : ℕ) → cond b (ds ++ x ∷ []) (0 ∷ (ds ++ x ∷ [])) ≡ cond b ds (0 ∷ ds) ++ x ∷ []
push_cond true ds x = refl
push_cond false ds x = refl

with_sign_push : (ds : List ℕ) (x : ℕ) → 0 < length ds → with_sign (ds ++ x ∷ []) ≡ with_sign ds ++ x ∷ []
with_sign_push [] x some = absurd (omega arith)
with_sign_push (first ∷ others) x some = push_cond (ltb first 128) (first ∷ others) x

with_sign_small : (n : ℕ) (ds : List ℕ) → n < 128 → with_sign (n ∷ ds) ≡ n ∷ ds
with_sign_small n ds h = cond-true (ltb n 128) (n ∷ ds) (0 ∷ n ∷ ds) (lt-ltb n 128 h)

with_sign_large : (n : ℕ) (ds : List ℕ) → 128 ≤ n → with_sign (n ∷ ds) ≡ 0 ∷ n ∷ ds
with_sign_large n ds h = cond-false (ltb n 128) (n ∷ ds) (0 ∷ n ∷ ds) (le-ltb n 128 h)

pub magnitude_small : (n : ℕ) → n < 128 → magnitude n ≡ n ∷ []
magnitude_small zero h = refl
magnitude_small (suc m) h = ap with_sign (digits_of_digit 256 (suc m) (omega arith) (omega arith) (omega arith))
    ∙ with_sign_small (suc m) [] h

some_from_first : (ds : List ℕ) → 0 < get_or ds 0 0 → 0 < length ds
some_from_first [] h = absurd (omega arith)
some_from_first (d ∷ ds) h = omega arith

magnitude_of_two : (n : ℕ) → 128 ≤ n → n < 256 → magnitude n ≡ magnitude (n / 256) ++ n % 256 ∷ []
magnitude_of_two n low high =
    let q : n / 256 ≡ 0 = omega arith in
    let r : n % 256 ≡ n = omega arith in
    ap with_sign (digits_of_digit 256 n (omega arith) high (omega arith)) ∙
    (with_sign_large n [] low ∙ sym (ap (λ k. magnitude k ++ n % 256 ∷ []) q ∙ ap (λ k. 0 ∷ k ∷ []) r))

magnitude_of_more : (n : ℕ) → 256 ≤ n → magnitude n ≡ magnitude (n / 256) ++ n % 256 ∷ []
magnitude_of_more n h =
    let above : 0 < n / 256 = omega arith in
    ap with_sign (digits_of_step 256 n (omega arith) (omega arith)) ∙
    with_sign_push (digits_of 256 (n / 256)) (n % 256)
    (some_from_first (digits_of 256 (n / 256)) (first_digits_of 256 (n / 256) (omega arith) above))

pub magnitude_step : (n : ℕ) → 128 ≤ n → magnitude n ≡ magnitude (n / 256) ++ n % 256 ∷ []
magnitude_step n h = ⊎_elim (magnitude_of_two n h) (magnitude_of_more n) (cases_lt n 256)

-- ---- the test of two octets

abbrev two_shortest : ℕ → ℕ → Bool
two_shortest first second = cond (eqb first 0) (leb 128 second) (cond (eqb first 255) (ltb second 128) true)

shortest_low : (first second : ℕ) → first < 128 → (first ≡ 0 → 128 ≤ second) → two_shortest first second ≡ true
shortest_low first second low lead = grind (arith, nat_tests)

shortest_high : (first second : ℕ) → 128 ≤ first → (first ≡ 255 → second < 128) → two_shortest first second ≡ true
shortest_high first second high lead = grind (arith, nat_tests)

low_shortest : (first second : ℕ) → first ≡ 0 → two_shortest first second ≡ true → 128 ≤ second
low_shortest first second none shortest = grind (arith, nat_tests)

high_shortest : (first second : ℕ) → first ≡ 255 → two_shortest first second ≡ true → second < 128
high_shortest first second all shortest = grind (arith, nat_tests)

-- ---- octets whose first bit is 0

-- the first bit is 0, and where there are more octets than one, the first nine are not all 0
abbrev IsUnsigned : List ℕ → Type 0
IsUnsigned [] = ⊥
IsUnsigned (octet ∷ []) = octet < 128
IsUnsigned (first ∷ second ∷ others) = (first < 128) × (first ≡ 0 → 128 ≤ second)

unsigned_by : (ds : List ℕ) → (0 < length ds → 0 < get_or ds 0 0) → IsUnsigned (with_sign ds)
unsigned_by [] lead = lit< tt
unsigned_by (first ∷ []) lead =
    ⊎_elim (λ low. subst IsUnsigned (sym (with_sign_small first [] low)) low)
    (λ high. subst IsUnsigned (sym (with_sign_large first [] high)) (lit< tt, λ _. high)) (cases_lt first 128)
unsigned_by (first ∷ second ∷ others) lead =
    let some : 0 < first = lead (omega arith) in
    ⊎_elim (λ low. subst IsUnsigned (sym (with_sign_small first (second ∷ others) low))
    (low, λ none. absurd (omega arith)))
    (λ high. subst IsUnsigned (sym (with_sign_large first (second ∷ others) high)) (lit< tt, λ _. high))
    (cases_lt first 128)

lead_of : (n : ℕ) → 0 < length (digits_of 256 n) → 0 < get_or (digits_of 256 n) 0 0
lead_of zero some = absurd (omega arith)
lead_of (suc m) some = first_digits_of 256 (suc m) (omega arith) (omega arith)

unsigned-magnitude : (n : ℕ) → IsUnsigned (magnitude n)
unsigned-magnitude n = unsigned_by (digits_of 256 n) (lead_of n)

octets-with_sign : (ds : List ℕ) → AreOctets ds → AreOctets (with_sign ds)
octets-with_sign [] h = (lit< tt, tt)
octets-with_sign (first ∷ others) h =
    ⊎_elim (λ low. subst AreOctets (sym (with_sign_small first others low)) h)
    (λ high. subst AreOctets (sym (with_sign_large first others high)) (lit< tt, h)) (cases_lt first 128)

octets-magnitude : (n : ℕ) → AreOctets (magnitude n)
octets-magnitude n = octets-with_sign (digits_of 256 n) (all_below_base_digits_of 256 n (omega arith))

number-with_sign : (ds : List ℕ) → number_from_digits 256 (with_sign ds) ≡ number_from_digits 256 ds
number-with_sign [] = refl
number-with_sign (first ∷ others) =
    ⊎_elim (λ low. ap (number_from_digits 256) (with_sign_small first others low))
    (λ high. ap (number_from_digits 256) (with_sign_large first others high)) (cases_lt first 128)

number-magnitude : (n : ℕ) → number_from_digits 256 (magnitude n) ≡ n
number-magnitude n = number-with_sign (digits_of 256 n) ∙ number_digits_of 256 n (omega arith)

one_octet : (n : ℕ) → 0 * 256 + n ≡ n
one_octet n = omega arith

magnitude-number : (os : List ℕ) → AreOctets os → IsUnsigned os → magnitude (number_from_digits 256 os) ≡ os
magnitude-number [] octets h = absurd h
magnitude-number (octet ∷ []) octets h = ap magnitude (one_octet octet) ∙ magnitude_small octet h
magnitude-number (first ∷ second ∷ others) octets h =
    ⊎_elim
    (λ none.
    ap (λ k. magnitude (number_from_digits_after 256 (k * 256 + second) others)) (one_octet first ∙ none) ∙
    (ap with_sign (digits_of-number 256 (second ∷ others) (omega arith) octets.1 (omega (arith, h.1 none))) ∙
    (with_sign_large second others (h.1 none) ∙ ap (λ k. k ∷ second ∷ others) (sym none))))
    (λ some.
    ap with_sign (digits_of-number 256 (first ∷ second ∷ others) (omega arith) octets (omega arith))
    ∙ with_sign_small first (second ∷ others) h.0)
    (cases_eq first 0)

-- ---- how many octets

pub length-magnitude : (k n : ℕ) → n < 128 * 256 ^ k → length (magnitude n) ≤ suc k
length-magnitude zero n h = omega (arith, ap length (magnitude_small n h))
length-magnitude (suc k) n h =
    ⊎_elim (λ low. omega (arith, ap length (magnitude_small n low)))
    (λ high.
    let fewer : n / 256 < 128 * 256 ^ k = omega (arith, pow-suc 256 k) in
    omega (
      arith,
      ap length (magnitude_step n high),
      length_push (magnitude (n / 256)) (n % 256),
      length-magnitude k (n / 256) fewer,
    )) (cases_lt n 128)

number_room : (first : ℕ) (others : List ℕ) → first < 128 → AreOctets (first ∷ others)
    → number_from_digits 256 (first ∷ others) < 128 * 256 ^ length others
number_room first others low octets =
    omega (
      arith,
      number_after_lt 256 (0 * 256 + first) others octets.1,
      mul-le (0 * 256 + first + 1) (256 ^ length others) 128 (256 ^ length others) (omega arith) (omega arith),
    )

fewest_of : (n first : ℕ) (others : List ℕ) → first < 128 → AreOctets (first ∷ others)
    → number_from_digits 256 (first ∷ others) ≡ n → length (magnitude n) ≤ suc (length others)
fewest_of n first others low octets same =
    length-magnitude (length others) n (subst (λ k. k < 128 * 256 ^ length others) same
    (number_room first others low octets))

-- ---- each bit the other way round

octets-complement : (os : List ℕ) → AreOctets os → AreOctets (complement os)
octets-complement os h = all-map (λ octet. octet < 256) (λ octet. octet < 256) (λ octet. 255 - octet) os
    (λ octet below. omega arith) h

complement-complement : (os : List ℕ) → AreOctets os → complement (complement os) ≡ os
complement-complement [] h = refl
complement-complement (octet ∷ os) h =
    let first : 255 - (255 - octet) ≡ octet = omega (arith, h.0) in
    let rest : complement (complement os) ≡ os = complement-complement os h.1 in
    cc

-- ---- values

twos_value-low : (first : ℕ) (others : List ℕ) → first < 128
    → twos_value (first ∷ others) ≡ pos (number_from_digits 256 (first ∷ others))
twos_value-low first others h = cond-true (ltb first 128) _ _ (lt-ltb first 128 h)

twos_value-high : (first : ℕ) (others : List ℕ) → 128 ≤ first
    → twos_value (first ∷ others) ≡ negsuc (number_from_digits 256 (complement (first ∷ others)))
twos_value-high first others h = cond-false (ltb first 128) _ _ (le-ltb first 128 h)

twos_value-unsigned : (os : List ℕ) → IsUnsigned os → twos_value os ≡ pos (number_from_digits 256 os)
twos_value-unsigned [] h = absurd h
twos_value-unsigned (octet ∷ []) h = twos_value-low octet [] h
twos_value-unsigned (first ∷ second ∷ others) h = twos_value-low first (second ∷ others) h.0

twos_value-complement : (os : List ℕ) → AreOctets os → IsUnsigned os
    → twos_value (complement os) ≡ negsuc (number_from_digits 256 os)
twos_value-complement [] octets h = absurd h
twos_value-complement (octet ∷ []) octets h =
    twos_value-high (255 - octet) [] (omega arith)
    ∙ ap (λ os. negsuc (number_from_digits 256 os)) (complement-complement (octet ∷ []) octets)
twos_value-complement (first ∷ second ∷ others) octets h =
    twos_value-high (255 - first) (complement (second ∷ others)) (omega (arith, h.0)) ∙
    ap (λ os. negsuc (number_from_digits 256 os)) (complement-complement (first ∷ second ∷ others) octets)

pub twos_value-number_content : (z : ℤ) → twos_value (number_content z) ≡ z
unfolding number_content
twos_value-number_content (pos n) = twos_value-unsigned (magnitude n) (unsigned-magnitude n)
    ∙ ap pos (number-magnitude n)
twos_value-number_content (negsuc n) = twos_value-complement (magnitude n) (octets-magnitude n) (unsigned-magnitude n)
    ∙ ap negsuc (number-magnitude n)

pub octets-number_content : (z : ℤ) → AreOctets (number_content z)
unfolding number_content
octets-number_content (pos n) = octets-magnitude n
octets-number_content (negsuc n) = octets-complement (magnitude n) (octets-magnitude n)

some-unsigned : (os : List ℕ) → IsUnsigned os → 0 < length os
some-unsigned [] h = absurd h
some-unsigned (octet ∷ os) h = omega arith

pub some-number_content : (z : ℤ) → 0 < length (number_content z)
unfolding number_content
some-number_content (pos n) = some-unsigned (magnitude n) (unsigned-magnitude n)
some-number_content (negsuc n) =
    omega (arith, some-unsigned (magnitude n) (unsigned-magnitude n), length-map (magnitude n) (λ octet. 255 - octet))

-- what a value says of the octets

number-from_pos : (n : ℕ) (os : List ℕ) → 0 < length os → twos_value os ≡ pos n → (get_or os 0 0 < 128)
    × (number_from_digits 256 os ≡ n)
number-from_pos n [] some same = absurd (omega arith)
number-from_pos n (first ∷ others) some same =
    ⊎_elim (λ low. (
      low,
      let e : pos (number_from_digits 256 (first ∷ others)) ≡ pos n =
          sym (twos_value-low first others low) ∙ same in cc,
    ))
    (λ high. absurd (let e : negsuc (number_from_digits 256 (complement (first ∷ others))) ≡ pos n =
    sym (twos_value-high first others high) ∙ same in cc)) (cases_lt first 128)

number-from_negsuc : (n : ℕ) (os : List ℕ) → 0 < length os → twos_value os ≡ negsuc n → (128 ≤ get_or os 0 0)
    × (number_from_digits 256 (complement os) ≡ n)
number-from_negsuc n [] some same = absurd (omega (arith, some))
number-from_negsuc n (first ∷ others) some same =
    ⊎_elim (λ low. absurd (let e : pos (number_from_digits 256 (first ∷ others)) ≡ negsuc n =
    sym (twos_value-low first others low) ∙ same in cc))
    (λ high. (
      high,
      let e : negsuc (number_from_digits 256 (complement (first ∷ others))) ≡ negsuc n =
          sym (twos_value-high first others high) ∙ same in cc,
    )) (cases_lt first 128)

fewest-pos : (n : ℕ) (os : List ℕ) → AreOctets os → 0 < length os → twos_value os ≡ pos n
    → length (magnitude n) ≤ length os
fewest-pos n [] octets some same = absurd (omega (arith, some))
fewest-pos n (first ∷ others) octets some same =
    let is = number-from_pos n (first ∷ others) some same in
    fewest_of n first others is.0 octets is.1

fewest-negsuc : (n : ℕ) (os : List ℕ) → AreOctets os → 0 < length os → twos_value os ≡ negsuc n
    → length (complement (magnitude n)) ≤ length os
fewest-negsuc n [] octets some same = absurd (omega (arith, some))
fewest-negsuc n (first ∷ others) octets some same =
    let is = number-from_negsuc n (first ∷ others) some same in
    omega (
      arith,
      fewest_of n (255 - first) (complement others) (omega (arith, is.0))
          (octets-complement (first ∷ others) octets) is.1,
      length-map others (λ octet. 255 - octet),
      length-map (magnitude n) (λ octet. 255 - octet),
    )

pub fewest-number_content : (z : ℤ) (os : List ℕ) → AreOctets os → 0 < length os → twos_value os ≡ z
    → length (number_content z) ≤ length os
unfolding number_content
fewest-number_content (pos n) os = fewest-pos n os
fewest-number_content (negsuc n) os = fewest-negsuc n os

-- the computed contents are the contents
pub IsNumberContent-number_content : (z : ℤ) → IsNumberContent z (number_content z)
IsNumberContent-number_content z = record {
  bytes = octets-number_content z;
  some = some-number_content z;
  value = twos_value-number_content z;
  fewest = fewest-number_content z;
}

-- ---- the only ones

same_from_pos : (n : ℕ) (xs ys : List ℕ) → AreOctets xs → AreOctets ys → 0 < length xs → 0 < length ys
    → length xs ≡ length ys → twos_value xs ≡ pos n → twos_value ys ≡ pos n → xs ≡ ys
same_from_pos n xs ys p q some some' e x y =
    same_from_number 256 xs ys p q e ((number-from_pos n xs some x).1 ∙ sym (number-from_pos n ys some' y).1)

same_from_negsuc : (n : ℕ) (xs ys : List ℕ) → AreOctets xs → AreOctets ys → 0 < length xs → 0 < length ys
    → length xs ≡ length ys → twos_value xs ≡ negsuc n → twos_value ys ≡ negsuc n → xs ≡ ys
same_from_negsuc n xs ys p q some some' e x y =
    let turned : complement xs ≡ complement ys =
    same_from_number 256 (complement xs) (complement ys) (octets-complement xs p) (octets-complement ys q)
    (length-map xs (λ octet. 255 - octet) ∙ (e ∙ sym (length-map ys (λ octet. 255 - octet))))
    ((number-from_negsuc n xs some x).1 ∙ sym (number-from_negsuc n ys some' y).1) in
    sym (complement-complement xs p) ∙ (ap complement turned ∙ complement-complement ys q)

same_from_value : (z : ℤ) (xs ys : List ℕ) → AreOctets xs → AreOctets ys → 0 < length xs → 0 < length ys
    → length xs ≡ length ys → twos_value xs ≡ z → twos_value ys ≡ z → xs ≡ ys
same_from_value (pos n) = same_from_pos n
same_from_value (negsuc n) = same_from_negsuc n

pub same_number_content : (z : ℤ) (xs ys : List ℕ) → IsNumberContent z xs → IsNumberContent z ys → xs ≡ ys
same_number_content z xs ys p q =
    let x = p.fewest ys q.bytes q.some q.value in
    let y = q.fewest xs p.bytes p.some p.value in
    same_from_value z xs ys p.bytes q.bytes p.some q.some (omega arith) p.value q.value

pub number_content_only : (z : ℤ) (os : List ℕ) → IsNumberContent z os → os ≡ number_content z
number_content_only z os h = same_number_content z os (number_content z) h (IsNumberContent-number_content z)

-- ---- the shortest

pub is_shortest-unsigned : (os : List ℕ) → IsUnsigned os → is_shortest os ≡ true
is_shortest-unsigned [] h = absurd h
is_shortest-unsigned (octet ∷ []) h = refl
is_shortest-unsigned (first ∷ second ∷ others) h = shortest_low first second h.0 h.1

is_shortest-complement : (os : List ℕ) → AreOctets os → IsUnsigned os → is_shortest (complement os) ≡ true
is_shortest-complement [] octets h = absurd h
is_shortest-complement (octet ∷ []) octets h = refl
is_shortest-complement (first ∷ second ∷ others) octets h =
    shortest_high (255 - first) (255 - second) (omega (arith, h.0))
    (λ all. let none : first ≡ 0 = omega (arith, octets.0) in omega (arith, h.1 none))

pub is_shortest-number_content : (z : ℤ) → is_shortest (number_content z) ≡ true
unfolding number_content
is_shortest-number_content (pos n) = is_shortest-unsigned (magnitude n) (unsigned-magnitude n)
is_shortest-number_content (negsuc n) = is_shortest-complement (magnitude n) (octets-magnitude n) (unsigned-magnitude n)

unsigned-shortest : (first : ℕ) (others : List ℕ) → first < 128 → is_shortest (first ∷ others) ≡ true
    → IsUnsigned (first ∷ others)
unsigned-shortest first [] low shortest = low
unsigned-shortest first (second ∷ others) low shortest = (low, λ none. low_shortest first second none shortest)

complement-shortest : (first : ℕ) (others : List ℕ) → AreOctets (first ∷ others) → 128 ≤ first
    → is_shortest (first ∷ others) ≡ true → IsUnsigned (complement (first ∷ others))
complement-shortest first [] octets high shortest = omega (arith, octets.0)
complement-shortest first (second ∷ others) octets high shortest = (
  omega (arith, octets.0),
  λ none. let all : first ≡ 255 = omega (arith, octets.0) in
      omega (arith, high_shortest first second all shortest),
)

-- the shortest octets are the contents of their value
pub number_content-twos_value : (os : List ℕ) → AreOctets os → is_shortest os ≡ true
    → number_content (twos_value os) ≡ os
unfolding number_content
number_content-twos_value [] octets shortest = absurd (let e : false ≡ true = shortest in cc)
number_content-twos_value (first ∷ others) octets shortest =
    ⊎_elim
    (λ low. ap number_content (twos_value-low first others low)
    ∙ magnitude-number (first ∷ others) octets (unsigned-shortest first others low shortest))
    (λ high.
    ap number_content (twos_value-high first others high) ∙
    (ap complement (magnitude-number (complement (first ∷ others)) (octets-complement (first ∷ others) octets)
    (complement-shortest first others octets high shortest)) ∙
    complement-complement (first ∷ others) octets))
    (cases_lt first 128)

-- ---- what the code keeps

-- one octet is pushed, in the order from the last to the first
pub magnitude_more : (n rest : ℕ) (octets pushed : List ℕ) → 128 ≤ rest → magnitude n ≡ magnitude rest ++ reverse octets
    → pushed ≡ octets ++ rest % 256 ∷ [] → magnitude n ≡ magnitude (rest / 256) ++ reverse pushed
magnitude_more n rest octets pushed high so_far push =
    so_far ∙
    (ap (λ front. front ++ reverse octets) (magnitude_step rest high) ∙
    (append_assoc (magnitude (rest / 256)) (rest % 256 ∷ []) (reverse octets) ∙
    ap (λ back. magnitude (rest / 256) ++ back) (sym (ap reverse push ∙ reverse-append octets (rest % 256 ∷ [])))))

pub magnitude_last : (n rest : ℕ) (octets pushed : List ℕ) → rest < 128 → magnitude n ≡ magnitude rest ++ reverse octets
    → pushed ≡ octets ++ rest ∷ [] → reverse pushed ≡ magnitude n
magnitude_last n rest octets pushed low so_far push =
    ap reverse push ∙ (reverse-append octets (rest ∷ [])
    ∙ sym (so_far ∙ ap (λ front. front ++ reverse octets) (magnitude_small rest low)))

pub is_shortest_decides : (os : List ℕ) (b : Bool) → ((i : ℕ) → get_or os i 0 < 256) → b ≡ is_shortest os
    → IsTrue b ↔ (number_content (twos_value os) ≡ os)
is_shortest_decides os b octets same = (
  λ yes'. number_content-twos_value os (all-from_places 256 os (λ i _. octets i)) (sym same ∙ yes'),
  λ e. same
      ∙ (ap is_shortest (sym e) ∙ is_shortest-number_content (twos_value os)),
)

pub IsNumberContent-from : (z : ℤ) (os : List ℕ) → os ≡ number_content z → IsNumberContent z os
IsNumberContent-from z os e = subst (IsNumberContent z) (sym e) (IsNumberContent-number_content z)

not_negative : (z : ℤ) (n : ℕ) (os : List ℕ) → lt_z z (pos 0) ≡ false → n ≡ nat_abs z → os ≡ magnitude n
    → os ≡ number_content z
unfolding number_content
not_negative (pos m) n os sign size e = e ∙ ap magnitude size
not_negative (negsuc m) n os sign size e = absurd (true≢false sign)

-- z is seen by the code as seen
pub content_not_negative : (z seen : ℤ) (n : ℕ) (os : List ℕ) → seen ≡ z → lt_z seen (pos 0) ≡ false → n ≡ nat_abs seen
    → os ≡ magnitude n → os ≡ number_content z
content_not_negative z seen n os same sign size e = not_negative seen n os sign size e ∙ ap number_content same

negative : (z : ℤ) (n : ℕ) (os : List ℕ) → lt_z z (pos 0) ≡ true → n ≡ nat_abs z → os ≡ complement (magnitude (n - 1))
    → os ≡ number_content z
unfolding number_content
negative (pos m) n os sign size e = absurd (omega (arith, ltb-true m 0 sign))
negative (negsuc m) n os sign size e =
    let same : n - 1 ≡ m = omega (arith, size) in
    e ∙ ap (λ k. complement (magnitude k)) same

pub content_negative : (z seen : ℤ) (n len : ℕ) (items now new : List ℕ) → seen ≡ z → lt_z seen (pos 0) ≡ true
    → n ≡ nat_abs seen → items ≡ magnitude (n - 1) → now ≡ items → new ≡ complement now → len ≡ length items
    → take len (new ++ drop (length new) items) ≡ number_content z
content_negative z seen n len items now new same sign size e lent turned long =
    take_at new (drop (length new) items) len
    (ap length turned ∙ (length-map now (λ octet. 255 - octet) ∙ (ap length lent ∙ sym long))) ∙
    (negative seen n new sign size (turned ∙ (ap complement lent ∙ ap complement e)) ∙ ap number_content same)
