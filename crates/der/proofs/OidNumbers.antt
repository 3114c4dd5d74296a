-- Decimal numbers, written and read.
use Rattle.std.proofs.Common.{◌≡◌, ℕ, zero, suc, ◌+◌, ◌-◌, ◌*◌, ◌/◌, ◌%◌, ◌^◌, ◌<◌, ◌≤◌, Bool, true, false, ◌&&◌, cond}
use Rattle.std.proofs.Common.{ltb, eqb, leb, List, [], ◌∷◌, ◌++◌, length, get_or, drop, map, Option, Some, None, refl}
use Rattle.std.proofs.Common.{sym, ap, subst, ◌∙◌, ◌⊎◌, inl, inr, ⊎_elim, arith, append_assoc}
use Rattle.std.specs.Int.Digits.{digits_of, number_from_digits, number_from_digits_after, AllBelowBase}
use Rattle.std.proofs.lemmas.Bool.{cases_lt, cases_Bool, lt-ltb, le-ltb, le-leb, lt-leb, eq-eqb, ne_eqb, eqb-false}
use Rattle.std.proofs.lemmas.Bool.{cond-true, cond-false, and_left, and_right}
use Rattle.std.proofs.lemmas.Int.Digits.{first_digits_of, number_digits_of, all_below_base_digits_of, number_after_ge}
use Rattle.std.proofs.lemmas.List.{map-append, drop_more, drop_all}
use Rattle.der.specs.ObjectIdentifier.{decimal, BeginsWithoutDigit, IsNumberAt}
use Rattle.der.proofs.Digits.{digits_of_digit, digits_of_push}

-- ---- written

decimal-positive : (n : ℕ) → 0 < n → decimal n ≡ map (λ digit. 48 + digit) (digits_of 10 n)
unfolding decimal
decimal-positive n some = cond-false (eqb n 0) (48 ∷ []) (map (λ digit. 48 + digit) (digits_of 10 n))
    (ne_eqb n 0 (λ e. omega arith))

pub decimal-digit : (n : ℕ) → n < 10 → decimal n ≡ (48 + n) ∷ []
unfolding decimal
decimal-digit zero low = refl
decimal-digit (suc m) low =
    decimal-positive (suc m) (omega arith)
    ∙ ap (map (λ digit. 48 + digit)) (digits_of_digit 10 (suc m) (omega arith) low (omega arith))

-- a digit more at the end
pub decimal-push : (n d : ℕ) → 0 < n → d < 10 → decimal (n * 10 + d) ≡ decimal n ++ (48 + d) ∷ []
decimal-push n d some low =
    decimal-positive (n * 10 + d) (omega arith) ∙
    (ap (map (λ digit. 48 + digit)) (digits_of_push 10 n d (omega arith) low (omega arith)) ∙
    (map-append (λ digit. 48 + digit) (digits_of 10 n) (d ∷ []) ∙
    ap (λ front. front ++ (48 + d) ∷ []) (sym (decimal-positive n some))))

pub decimal-step : (n : ℕ) → 10 ≤ n → decimal n ≡ decimal (n / 10) ++ (48 + n % 10) ∷ []
decimal-step n high =
    let whole : n ≡ n / 10 * 10 + n % 10 = omega arith in
    ap decimal whole ∙ decimal-push (n / 10) (n % 10) (omega arith) (omega arith)

pub decimal-last : (n : ℕ) → n < 10 → decimal n ≡ (48 + n % 10) ∷ []
decimal-last n low =
    let same : n ≡ n % 10 = omega arith in
    decimal-digit n low ∙ ap (λ k. (48 + k) ∷ []) same

-- ---- read

-- the number at the front, with n read of it where it has begun
abbrev pub number_from : Bool → ℕ → List ℕ → Option (ℕ × List ℕ)
number_from begun n [] = cond begun (Some (n, [])) None
number_from begun n (c ∷ cs) =
    cond (leb 48 c && leb c 57)
    (cond (begun && eqb n 0) None (cond (ltb (n * 10 + (c - 48)) (2 ^ 128))
    (number_from true (n * 10 + (c - 48)) cs) None))
    (cond begun (Some (n, c ∷ cs)) None)

digit_test : (c : ℕ) → 48 ≤ c → c ≤ 57 → (leb 48 c && leb c 57) ≡ true
digit_test c low high =
    let a = le-leb 48 c low in
    let b = le-leb c 57 high in
    rw (a, b) refl

other_test : (c : ℕ) → (c < 48) ⊎ (57 < c) → (leb 48 c && leb c 57) ≡ false
other_test c other =
    ⊎_elim (λ low. and_left (leb 48 c) (leb c 57) (lt-leb 48 c low))
    (λ high. and_right (leb 48 c) (leb c 57) (lt-leb c 57 high)) other

pub number_from-digit : (begun : Bool) (n c : ℕ) (cs : List ℕ) → 48 ≤ c → c ≤ 57 → (begun && eqb n 0) ≡ false
    → n * 10 + (c - 48) < 2 ^ 128 → number_from begun n (c ∷ cs) ≡ number_from true (n * 10 + (c - 48)) cs
number_from-digit begun n c cs low high lead small =
    let a = digit_test c low high in
    let d = lt-ltb (n * 10 + (c - 48)) (2 ^ 128) small in
    cond-true _ _ _ a ∙ (cond-false _ _ _ lead ∙ cond-true _ _ _ d)

pub number_from-zero : (n c : ℕ) (cs : List ℕ) → 48 ≤ c → c ≤ 57 → n ≡ 0 → number_from true n (c ∷ cs) ≡ None
number_from-zero n c cs low high none = cond-true _ _ _ (digit_test c low high) ∙ cond-true _ _ _ (eq-eqb n 0 none)

pub number_from-large : (begun : Bool) (n c : ℕ) (cs : List ℕ) → 48 ≤ c → c ≤ 57 → (begun && eqb n 0) ≡ false
    → 2 ^ 128 ≤ n * 10 + (c - 48) → number_from begun n (c ∷ cs) ≡ None
number_from-large begun n c cs low high lead large =
    cond-true _ _ _ (digit_test c low high) ∙ (cond-false _ _ _ lead
    ∙ cond-false _ _ _ (le-ltb (n * 10 + (c - 48)) (2 ^ 128) large))

pub number_from-other : (begun : Bool) (n c : ℕ) (cs : List ℕ) → (c < 48) ⊎ (57 < c)
    → number_from begun n (c ∷ cs) ≡ cond begun (Some (n, c ∷ cs)) None
number_from-other begun n c cs other = cond-false _ _ _ (other_test c other)

-- ---- what was written is read

ended : (n : ℕ) (rest : List ℕ) → BeginsWithoutDigit rest → number_from true n rest ≡ Some (n, rest)
ended n [] ends = refl
ended n (c ∷ cs) ends = number_from-other true n c cs ends

run : (n : ℕ) (ds rest : List ℕ) → 0 < n → AllBelowBase 10 ds → number_from_digits_after 10 n ds < 2 ^ 128
    → number_from true n (map (λ digit. 48 + digit) ds ++ rest)
    ≡ number_from true (number_from_digits_after 10 n ds) rest
run n [] rest some below small = refl
run n (d ∷ ds) rest some below small =
    let same : n * 10 + (48 + d - 48) ≡ n * 10 + d = omega arith in
    number_from-digit true n (48 + d) (map (λ digit. 48 + digit) ds ++ rest) (omega arith) (omega (arith, below.0))
    (ne_eqb n 0 (λ e. omega arith)) (omega (arith, number_after_ge 10 (n * 10 + d) ds (omega arith))) ∙
    (ap (λ k. number_from true k (map (λ digit. 48 + digit) ds ++ rest)) same
    ∙ run (n * 10 + d) ds rest (omega arith) below.1 small)

begun_at : (ds rest : List ℕ) → AllBelowBase 10 ds → 0 < get_or ds 0 0 → number_from_digits 10 ds < 2 ^ 128
    → number_from false 0 (map (λ digit. 48 + digit) ds ++ rest) ≡ number_from true (number_from_digits 10 ds) rest
begun_at [] rest below some small = absurd (omega arith)
begun_at (d ∷ ds) rest below some small =
    let same : 0 * 10 + (48 + d - 48) ≡ 0 * 10 + d = omega arith in
    number_from-digit false 0 (48 + d) (map (λ digit. 48 + digit) ds ++ rest) (omega arith)
    (omega (arith, below.0)) refl (omega (arith, below.0)) ∙
    (ap (λ k. number_from true k (map (λ digit. 48 + digit) ds ++ rest)) same
    ∙ run (0 * 10 + d) ds rest (omega arith) below.1 small)

number_from-positive : (n : ℕ) (rest : List ℕ) → 0 < n → n < 2 ^ 128 → BeginsWithoutDigit rest
    → number_from false 0 (decimal n ++ rest) ≡ Some (n, rest)
number_from-positive n rest some small ends =
    let whole = number_digits_of 10 n (omega arith) in
    ap (λ front. number_from false 0 (front ++ rest)) (decimal-positive n some) ∙
    (begun_at (digits_of 10 n) rest (all_below_base_digits_of 10 n (omega arith))
    (first_digits_of 10 n (omega arith) some) (omega (arith, whole)) ∙
    (ap (λ k. number_from true k rest) whole ∙ ended n rest ends))

number_from-decimal : (n : ℕ) (rest : List ℕ) → n < 2 ^ 128 → BeginsWithoutDigit rest
    → number_from false 0 (decimal n ++ rest) ≡ Some (n, rest)
number_from-decimal zero rest small ends =
    ap (λ front. number_from false 0 (front ++ rest)) (decimal-digit 0 (omega arith)) ∙
    (number_from-digit false 0 48 rest (omega arith) (omega arith) refl (omega arith) ∙ ended 0 rest ends)
number_from-decimal (suc m) rest small ends = number_from-positive (suc m) rest (omega arith) small ends

pub number_from-number : (text : List ℕ) (n : ℕ) (rest : List ℕ) → IsNumberAt text n rest
    → number_from false 0 text ≡ Some (n, rest)
number_from-number text n rest h = ap (number_from false 0) h.spelled ∙ number_from-decimal n rest h.small h.ends

number_in : Option (ℕ × List ℕ) → ℕ
number_in None = 0
number_in (Some found) = found.0

rest_in : Option (ℕ × List ℕ) → List ℕ
rest_in None = []
rest_in (Some found) = found.1

abbrev pub reading : ℕ → List ℕ → Option (ℕ × List ℕ)
reading n rest = Some (n, rest)

pub same_found : (m n : ℕ) (xs ys : List ℕ) → reading m xs ≡ reading n ys → (m ≡ n) × (xs ≡ ys)
unfolding number_in rest_in
same_found m n xs ys e = (ap number_in e, ap rest_in e)

-- one number and one rest
pub same_number : (text : List ℕ) (m n : ℕ) (xs ys : List ℕ) → IsNumberAt text m xs → IsNumberAt text n ys → (m ≡ n)
    × (xs ≡ ys)
same_number text m n xs ys p q =
    same_found m n xs ys (sym (number_from-number text m xs p) ∙ number_from-number text n ys q)

-- ---- what was read was written

-- the digits so far
abbrev pub so_far : Bool → ℕ → List ℕ
so_far true n = decimal n
so_far false n = []

-- a number has begun, or there is none yet
abbrev pub IsBegun : Bool → ℕ → Type 0
IsBegun true n = Unit {0}
IsBegun false n = n ≡ 0

so_far-digit : (begun : Bool) (n c : ℕ) → IsBegun begun n → 48 ≤ c → c ≤ 57 → (begun && eqb n 0) ≡ false
    → so_far true (n * 10 + (c - 48)) ≡ so_far begun n ++ c ∷ []
so_far-digit true n c begun low high lead =
    let some : 0 < n = ⊎_elim (λ h. h) (λ h. absurd (eqb-false n 0 lead (omega arith))) (cases_lt 0 n) in
    let same : 48 + (c - 48) ≡ c = omega arith in
    decimal-push n (c - 48) some (omega arith) ∙ ap (λ k. decimal n ++ k ∷ []) same
so_far-digit false n c begun low high lead =
    let only : n * 10 + (c - 48) ≡ c - 48 = omega (arith, begun) in
    let same : 48 + (c - 48) ≡ c = omega arith in
    ap decimal only ∙ (decimal-digit (c - 48) (omega arith) ∙ ap (λ k. k ∷ []) same)

-- what is found is the number at the front
abbrev IsFound : Bool → ℕ → List ℕ → ℕ → List ℕ → Type 0
IsFound begun n cs m rest = (so_far begun n ++ cs ≡ decimal m ++ rest) × (m < 2 ^ 128) × BeginsWithoutDigit rest

found_at_end : (begun : Bool) (n : ℕ) (cs : List ℕ) (m : ℕ) (rest : List ℕ) → n < 2 ^ 128 → BeginsWithoutDigit cs
    → cond begun (reading n cs) None ≡ reading m rest → IsFound begun n cs m rest
found_at_end true n cs m rest small ends e =
    let same = same_found n m cs rest e in (
      ap (λ k. decimal k ++ cs) same.0 ∙ ap (λ k. decimal m ++ k) same.1,
      subst (λ k. k < 2 ^ 128) same.0 small,
      subst BeginsWithoutDigit same.1 ends,
    )
found_at_end false n cs m rest small ends e = absurd (cc e)

found_by : (begun : Bool) (n : ℕ) (cs : List ℕ) (m : ℕ) (rest : List ℕ) → IsBegun begun n → n < 2 ^ 128
    → number_from begun n cs ≡ Some (m, rest) → IsFound begun n cs m rest
found_by begun n [] m rest is small e = found_at_end begun n [] m rest small tt e
found_by begun n (c ∷ cs) m rest is small e =
    ⊎_elim
    (λ low. found_at_end begun n (c ∷ cs) m rest small (inl low) (sym (number_from-other begun n c cs (inl low)) ∙ e))
    (λ low.
    ⊎_elim
    (λ high. found_at_end begun n (c ∷ cs) m rest small (inr high)
    (sym (number_from-other begun n c cs (inr high)) ∙ e))
    (λ high.
    ⊎_elim
    (λ padded. absurd (let none : None ≡ reading m rest =
    sym (cond-true _ _ _ (digit_test c low high) ∙ cond-true _ _ _ padded) ∙ e in cc))
    (λ lead.
    ⊎_elim
    (λ fits.
    let next = found_by true (n * 10 + (c - 48)) cs m rest tt fits
    (sym (number_from-digit begun n c cs low high lead fits) ∙ e) in (
      sym (append_assoc (so_far begun n) (c ∷ []) cs)
          ∙ (ap (λ front. front ++ cs) (sym (so_far-digit begun n c is low high lead)) ∙ next.0),
      next.1,
      next.2,
    ))
    (λ large. absurd (let none : None ≡ reading m rest = sym (number_from-large begun n c cs low high lead large) ∙ e in
    cc))
    (cases_lt (n * 10 + (c - 48)) (2 ^ 128)))
    (cases_Bool (begun && eqb n 0)))
    (cases_lt 57 c))
    (cases_lt c 48)

pub number-number_from : (text : List ℕ) (n : ℕ) (rest : List ℕ) → number_from false 0 text ≡ Some (n, rest)
    → IsNumberAt text n rest
number-number_from text n rest e =
    let found = found_by false 0 text n rest refl (omega arith) e in
    record { spelled = found.0; small = found.1; ends = found.2 }

-- ---- the loop that reads

pub no_number : (text : List ℕ) → number_from false 0 text ≡ None → (n : ℕ) (rest : List ℕ) → IsNumberAt text n rest → ⊥
no_number text none n rest h = let e : None ≡ reading n rest = sym none ∙ number_from-number text n rest h in cc

-- i characters are read, and n of the number where there are any
pub record IsNumberSoFar (text : List ℕ) (i n : ℕ) : Type 0 where
  pub same : number_from (ltb 0 i) n (drop i text) ≡ number_from false 0 text

here : (text : List ℕ) (i n c : ℕ) → i < length text → c ≡ get_or text i 0 → IsNumberSoFar text i n
    → number_from (ltb 0 i) n (c ∷ drop (i + 1) text) ≡ number_from false 0 text
here text i n c within at h =
    sym (ap (number_from (ltb 0 i) n) (drop_more text i 0 within ∙ ap (λ k. k ∷ drop (i + 1) text) (sym at))) ∙ h.same

begun_or_first : (i n : ℕ) → (0 < i → n ≡ 0 → ⊥) → (ltb 0 i && eqb n 0) ≡ false
begun_or_first i n h =
    ⊎_elim (λ some. and_right (ltb 0 i) (eqb n 0) (ne_eqb n 0 (h some)))
    (λ none. and_left (ltb 0 i) (eqb n 0) (le-ltb 0 i none)) (cases_lt 0 i)

pub number_large : (text : List ℕ) (i n c : ℕ) → i < length text → c ≡ get_or text i 0 → IsNumberSoFar text i n → 48 ≤ c
    → c ≤ 57 → (0 < i → n ≡ 0 → ⊥) → 2 ^ 128 ≤ n * 10 + (c - 48) → number_from false 0 text ≡ None
number_large text i n c within at h low high lead large =
    sym (here text i n c within at h) ∙ number_from-large (ltb 0 i) n c (drop (i + 1) text) low high
    (begun_or_first i n lead) large

pub number_padded : (text : List ℕ) (i n c : ℕ) → i < length text → c ≡ get_or text i 0 → IsNumberSoFar text i n
    → 48 ≤ c → c ≤ 57 → 0 < i → n ≡ 0 → number_from false 0 text ≡ None
number_padded text i n c within at h low high some none =
    sym (here text i n c within at h) ∙
    (ap (λ b. number_from b n (c ∷ drop (i + 1) text)) (lt-ltb 0 i some)
    ∙ number_from-zero n c (drop (i + 1) text) low high none)

number_ends : (text : List ℕ) (i n c : ℕ) → i < length text → c ≡ get_or text i 0 → IsNumberSoFar text i n → (c < 48)
    ⊎ (57 < c) → cond (ltb 0 i) (reading n (c ∷ drop (i + 1) text)) None ≡ number_from false 0 text
number_ends text i n c within at h other =
    sym (number_from-other (ltb 0 i) n c (drop (i + 1) text) other) ∙ here text i n c within at h

pub number_found : (text : List ℕ) (i n c : ℕ) → i < length text → c ≡ get_or text i 0 → IsNumberSoFar text i n
    → (c < 48) ⊎ (57 < c) → 0 < i → IsNumberAt text n (drop i text)
number_found text i n c within at h other some =
    number-number_from text n (drop i text)
    (sym (number_ends text i n c within at h other) ∙
    (cond-true _ _ _ (lt-ltb 0 i some) ∙ ap (reading n)
    (sym (drop_more text i 0 within ∙ ap (λ k. k ∷ drop (i + 1) text) (sym at)))))

pub number_missing : (text : List ℕ) (i n c : ℕ) → i < length text → c ≡ get_or text i 0 → IsNumberSoFar text i n
    → (c < 48) ⊎ (57 < c) → i ≤ 0 → number_from false 0 text ≡ None
number_missing text i n c within at h other none =
    sym (number_ends text i n c within at h other) ∙ cond-false _ _ _ (le-ltb 0 i none)

at_end : (text : List ℕ) (i n : ℕ) → length text ≤ i → IsNumberSoFar text i n
    → cond (ltb 0 i) (reading n []) None ≡ number_from false 0 text
at_end text i n end h = sym (ap (number_from (ltb 0 i) n) (drop_all i text end)) ∙ h.same

pub number_to_end : (text : List ℕ) (i n : ℕ) → length text ≤ i → 0 < length text → IsNumberSoFar text i n
    → IsNumberAt text n []
number_to_end text i n end some h =
    number-number_from text n [] (sym (at_end text i n end h) ∙ cond-true _ _ _ (lt-ltb 0 i (omega arith)))

pub no_text : (text : List ℕ) → length text ≡ 0 → number_from false 0 text ≡ None
no_text [] none = refl
no_text (c ∷ cs) none = absurd (omega (arith, none))
