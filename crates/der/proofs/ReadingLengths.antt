-- Reading length octets gives the number that they were written for, and no other octets are read as that number.
use Rattle.std.proofs.Common.{◌≡◌, ℕ, ◌+◌, ◌-◌, ◌*◌, ◌<◌, ◌≤◌, ◌^◌, ◌==◌, ◌||◌, Bool, true, false, List, [], ◌∷◌, ◌++◌}
use Rattle.std.proofs.Common.{length, get_or, take, drop, Result, Ok, Err, if◌then◌else◌, nat_lt, refl, sym, ap, ap₂}
use Rattle.std.proofs.{Common.◌∙◌, Common.arith, Math.Seq.take-append_seam, Math.Seq.drop-append_seam}
use Rattle.std.specs.Int.Digits.{digits_of, number_from_digits}
use Rattle.std.proofs.lemmas.Int.Digits.{number_after_ge, number_digits_of, first_digits_of, all_below_base_digits_of}
use Rattle.std.proofs.lemmas.{Bool.ltb-false, Bool.le-ltb, Bool.Decides.nat_tests, Slice.Eq.bytes_eq-Decides}
use Rattle.std.proofs.lemmas.List.{length-append, take-append-drop, length-take-le}
use Rattle.der.specs.{Node.length_octets, Node.AreOctets, declared.fault.DerFault.DerFault}
use Rattle.der.specs.FirstFault.{is_length_of, long_length, length_at}
use Rattle.der.specs.declared.fault.DerFault.TheVariants.{Truncated, LengthForm, TooLong}
use Rattle.der.proofs.{Digits.digits_of-number, Octets.AreOctets-take}
use Rattle.der.proofs.Lengths.{length_octets_short, length_octets_long, length_of_digits}
use Rattle.der.proofs.ReadingSteps.{ok_is, err_is_not, else_ok, then_ok}

-- octets without a leading zero are the length octets of their number, where that is at least 128
is_length : (octets : List ℕ) → AreOctets octets → 0 < get_or octets 0 0 → 128 ≤ number_from_digits 256 octets
    → is_length_of (number_from_digits 256 octets) octets ≡ true
unfolding is_length_of
is_length octets bytes some low =
    let n = number_from_digits 256 octets in
    let same : digits_of 256 n ≡ octets = digits_of-number 256 octets (omega arith) bytes some in
    (bytes_eq-Decides ((128 + length octets) ∷ octets) (length_octets n)).1 (rw (length_octets_long n low, same) refl)

tail_of : (x y : ℕ) (xs ys : List ℕ) → x ∷ xs ≡ y ∷ ys → xs ≡ ys
tail_of x y xs ys e = cc

-- and the other way round
from_length_by : (b : Bool) (n : ℕ) (octets : List ℕ) → nat_lt n 128 ≡ b
    → (128 + length octets) ∷ octets ≡ length_octets n → (128 ≤ n) × (octets ≡ digits_of 256 n)
from_length_by true n octets is e =
    let small : n < 128 = grind (arith, nat_tests) in
    let one : (128 + length octets) ∷ octets ≡ n ∷ [] = e ∙ length_octets_short n small in
    let first : 128 + length octets ≡ n = ap (λ os. get_or os 0 0) one in
    absurd (omega arith)
from_length_by false n octets is e =
    let low = ltb-false n 128 is in
    (low, tail_of _ _ _ _ (e ∙ length_octets_long n low))

from_length : (n : ℕ) (octets : List ℕ) → is_length_of n octets ≡ true → (128 ≤ n) × (octets ≡ digits_of 256 n)
unfolding is_length_of
from_length n octets e =
    from_length_by (nat_lt n 128) n octets refl
    ((bytes_eq-Decides ((128 + length octets) ∷ octets) (length_octets n)).0 e)

first_of_length : (n : ℕ) (octets : List ℕ) → is_length_of n octets ≡ true → 0 < get_or octets 0 0
first_of_length n octets e =
    let back = from_length n octets e in
    rw back.1 (first_digits_of 256 n (omega arith) (omega (arith, back.0)))

-- a leading zero, and a number below 128, are refused
zero_by : (b : Bool) (octets : List ℕ) → is_length_of (number_from_digits 256 octets) octets ≡ b → get_or octets 0 0 ≡ 0
    → b ≡ false
zero_by true octets is zero = absurd (omega (arith, first_of_length (number_from_digits 256 octets) octets is))
zero_by false octets is zero = refl

pub long_length_zero : (octets rest : List ℕ) → get_or octets 0 0 ≡ 0 → long_length octets rest ≡ Err LengthForm
unfolding long_length
long_length_zero octets rest zero =
    let n = number_from_digits 256 octets in
    let no : is_length_of n octets ≡ false = zero_by (is_length_of n octets) octets refl zero in rw no refl

small_by : (b : Bool) (octets : List ℕ) → is_length_of (number_from_digits 256 octets) octets ≡ b
    → number_from_digits 256 octets < 128 → b ≡ false
small_by true octets is small = absurd (omega (arith, (from_length (number_from_digits 256 octets) octets is).0))
small_by false octets is small = refl

pub long_length_small : (octets rest : List ℕ) → number_from_digits 256 octets < 128
    → long_length octets rest ≡ Err LengthForm
unfolding long_length
long_length_small octets rest small =
    let n = number_from_digits 256 octets in
    let no : is_length_of n octets ≡ false = small_by (is_length_of n octets) octets refl small in rw no refl

four : (a b c d : ℕ) (others rest : List ℕ) → AreOctets (a ∷ b ∷ c ∷ d ∷ others) → 0 < a
    → long_length (a ∷ b ∷ c ∷ d ∷ others) rest ≡ Err TooLong
unfolding long_length
four a b c d others rest bytes some =
    let n = number_from_digits 256 (a ∷ b ∷ c ∷ d ∷ others) in
    let low = number_after_ge 256 (((a * 256 + b) * 256 + c) * 256 + d) others (omega arith) in
    let least : 16777216 ≤ n = grind (arith, low) in
    let fewest = is_length (a ∷ b ∷ c ∷ d ∷ others) bytes some (omega (arith, least)) in
    let not_fits : nat_lt n (2 ^ 24) ≡ false = le-ltb n (2 ^ 24) least in
    rw (fewest, not_fits) refl

pub long_length_four : (octets rest : List ℕ) → AreOctets octets → 4 ≤ length octets → 0 < get_or octets 0 0
    → long_length octets rest ≡ Err TooLong
long_length_four [] rest bytes long some = absurd (omega arith)
long_length_four (a ∷ []) rest bytes long some = absurd (omega arith)
long_length_four (a ∷ b ∷ []) rest bytes long some = absurd (omega arith)
long_length_four (a ∷ b ∷ c ∷ []) rest bytes long some = absurd (omega arith)
long_length_four (a ∷ b ∷ c ∷ d ∷ others) rest bytes long some = four a b c d others rest bytes some

-- from the digits of a number in range, the number
pub long_length_written : (digits rest : List ℕ) (n : ℕ) → AreOctets digits → 0 < get_or digits 0 0
    → number_from_digits 256 digits ≡ n → 128 ≤ n → n < 2 ^ 24 → long_length digits rest ≡ Ok (n, rest)
unfolding long_length
long_length_written digits rest n bytes some is low high =
    let fewest = is_length digits bytes some (omega (arith, is)) in
    let fits : nat_lt (number_from_digits 256 digits) (2 ^ 24) ≡ true = rw is (grind (arith, nat_tests)) in
    rw (fewest, fits, is) refl

-- the numbers of one to three octets
pub number_of_one : (octets : List ℕ) → length octets ≡ 1 → number_from_digits 256 octets ≡ get_or octets 0 0
number_of_one [] e = absurd (omega arith)
number_of_one (a ∷ []) e = omega arith
number_of_one (a ∷ b ∷ others) e = absurd (omega arith)

pub number_of_two : (octets : List ℕ) → length octets ≡ 2
    → number_from_digits 256 octets ≡ get_or octets 0 0 * 256 + get_or octets 1 0
number_of_two [] e = absurd (omega arith)
number_of_two (a ∷ []) e = absurd (omega arith)
number_of_two (a ∷ b ∷ []) e = omega arith
number_of_two (a ∷ b ∷ c ∷ others) e = absurd (omega arith)

pub number_of_three : (octets : List ℕ) → length octets ≡ 3
    → number_from_digits 256 octets ≡ (get_or octets 0 0 * 256 + get_or octets 1 0) * 256 + get_or octets 2 0
number_of_three [] e = absurd (omega arith)
number_of_three (a ∷ []) e = absurd (omega arith)
number_of_three (a ∷ b ∷ []) e = absurd (omega arith)
number_of_three (a ∷ b ∷ c ∷ []) e = omega arith
number_of_three (a ∷ b ∷ c ∷ d ∷ others) e = absurd (omega arith)

-- as many octets follow as the first says
length_at_long : (digits rest : List ℕ) → 0 < length digits → length digits < 127
    → length_at ((128 + length digits) ∷ (digits ++ rest)) ≡ long_length digits rest
unfolding length_at
length_at_long digits rest some few =
    let k = length digits in
    let long : nat_lt (128 + k) 128 ≡ false = grind (arith, nat_tests) in
    let definite : (128 + k == 128) ≡ false = grind (arith, nat_tests) in
    let used : (128 + k == 255) ≡ false = grind (arith, nat_tests) in
    let count : 128 + k - 128 ≡ k = omega arith in
    let all : nat_lt (length (digits ++ rest)) k ≡ false =
    le-ltb (length (digits ++ rest)) k (omega (arith, length-append digits rest)) in
    rw (long, definite, used, count, all) (ap₂ long_length (take-append_seam digits rest)
    (drop-append_seam digits rest))

length_at_short : (n : ℕ) (rest : List ℕ) → n < 128 → length_at (n ∷ rest) ≡ Ok (n, rest)
unfolding length_at
length_at_short n rest small = let short : nat_lt n 128 ≡ true = grind (arith, nat_tests) in rw short refl

written_long : (n : ℕ) (rest : List ℕ) → 128 ≤ n → n < 2 ^ 24 → length_at (length_octets n ++ rest) ≡ Ok (n, rest)
written_long n rest low high =
    let digits = digits_of 256 n in
    let count = length_of_digits n low high in
    ap (λ octets. length_at (octets ++ rest)) (length_octets_long n low) ∙
    (length_at_long digits rest count.0 (omega (arith, count.1)) ∙
    long_length_written digits rest n (all_below_base_digits_of 256 n (omega arith))
    (first_digits_of 256 n (omega arith) (omega arith)) (number_digits_of 256 n (omega arith)) low high)

written_short : (n : ℕ) (rest : List ℕ) → n < 128 → length_at (length_octets n ++ rest) ≡ Ok (n, rest)
written_short n rest small =
    ap (λ octets. length_at (octets ++ rest)) (length_octets_short n small) ∙ length_at_short n rest small

written_by : (b : Bool) (n : ℕ) (rest : List ℕ) → nat_lt n 128 ≡ b → n < 2 ^ 24
    → length_at (length_octets n ++ rest) ≡ Ok (n, rest)
written_by true n rest is small = written_short n rest (grind (arith, nat_tests))
written_by false n rest is small = written_long n rest (ltb-false n 128 is) small

-- what is written for a number is read as that number
pub length_at-length_octets : (n : ℕ) (rest : List ℕ) → n < 2 ^ 24 → length_at (length_octets n ++ rest) ≡ Ok (n, rest)
length_at-length_octets n rest small = written_by (nat_lt n 128) n rest refl small

pub record ReadsLength (octets : List ℕ) (n : ℕ) (rest : List ℕ) : Type 0 where
  pub front : octets ≡ length_octets n ++ rest
  pub small : n < 2 ^ 24

record ReadsLong (digits rest : List ℕ) (n : ℕ) (after : List ℕ) : Type 0 where
  some : 0 < get_or digits 0 0
  low : 128 ≤ n
  high : n < 2 ^ 24
  number : number_from_digits 256 digits ≡ n
  same : rest ≡ after

-- a test that goes on was met
goes_on : {A : Type 0} (b : Bool) (r : Result A DerFault) (fault : DerFault) (y : A)
    → (if b then r else Err fault) ≡ Ok y → (b ≡ true) × (r ≡ Ok y)
goes_on true r fault y h = (refl, h)
goes_on false r fault y h = absurd (err_is_not fault y h)

long_length_reads : (digits rest : List ℕ) (n : ℕ) (after : List ℕ) → long_length digits rest ≡ Ok (n, after)
    → ReadsLong digits rest n after
unfolding long_length
long_length_reads digits rest n after e =
    let number = number_from_digits 256 digits in
    let fewest = goes_on (is_length_of number digits) _ LengthForm (n, after) e in
    let back = from_length number digits fewest.0 in
    let fits = then_ok (nat_lt number (2 ^ 24)) TooLong (number, rest) (n, after) fewest.1 in
    let is : number ≡ n = ap (λ pair. pair.0) fits.1 in
    record {
      some = first_of_length number digits fewest.0;
      low = omega (arith, is, back.0);
      high = grind (arith, nat_tests, fits.0, is);
      number = is;
      same = ap (λ pair. pair.1) fits.1;
    }

reads_long : (first : ℕ) (rest : List ℕ) (n : ℕ) (after : List ℕ) → 128 ≤ first → AreOctets rest
    → first - 128 ≤ length rest → ReadsLong (take (first - 128) rest) (drop (first - 128) rest) n after
    → ReadsLength (first ∷ rest) n after
reads_long first rest n after low bytes enough long =
    let k = first - 128 in
    let digits = take k rest in
    let count : length digits ≡ k = length-take-le k rest enough in
    let same : digits_of 256 n ≡ digits = ap (digits_of 256) (sym long.number)
    ∙ digits_of-number 256 digits (omega arith) (AreOctets-take k rest bytes) long.some in
    let marked : first ≡ 128 + length digits = omega (arith, count) in
    record {
      front = rw (length_octets_long n long.low, same)
          (ap₂ (λ octet octets. octet ∷ octets) marked
          (sym (take-append-drop k rest) ∙ ap (λ others. digits ++ others) long.same));
      small = long.high;
    }

reads_by : (b : Bool) (first : ℕ) (rest : List ℕ) (n : ℕ) (after : List ℕ) → nat_lt first 128 ≡ b → AreOctets rest
    → length_at (first ∷ rest) ≡ Ok (n, after) → ReadsLength (first ∷ rest) n after
unfolding length_at
reads_by true first rest n after short bytes e =
    let same = ok_is (first, rest) (n, after) (rw short at e) in
    let is : first ≡ n = ap (λ pair. pair.0) same in
    let small : n < 128 = grind (arith, nat_tests, is) in
    record {
      front = rw (length_octets_short n small)
          (ap₂ (λ octet octets. octet ∷ octets) (omega (arith, is)) (ap (λ pair. pair.1) same));
      small = omega arith;
    }
reads_by false first rest n after long bytes e =
    let definite = else_ok ((first == 128) || (first == 255)) LengthForm _ (n, after) (rw long at e) in
    let all = else_ok (nat_lt (length rest) (first - 128)) Truncated _ (n, after) definite.1 in
    reads_long first rest n after (ltb-false first 128 long) bytes (ltb-false (length rest) (first - 128) all.0)
    (long_length_reads _ _ n after all.1)

-- octets that are read as a number begin with what is written for it
pub length_at_reads : (octets : List ℕ) (n : ℕ) (rest : List ℕ) → AreOctets octets → length_at octets ≡ Ok (n, rest)
    → ReadsLength octets n rest
unfolding length_at
length_at_reads [] n rest bytes e = absurd cc
length_at_reads (first ∷ others) n rest bytes e = reads_by (nat_lt first 128) first others n rest refl bytes.1 e
