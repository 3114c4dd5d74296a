-- What is read from the front of a text is what it states, and nothing else is.
use Rattle.std.proofs.Common.{◌≡◌, ℕ, zero, suc, ◌-◌, ◌+◌, ◌*◌, ◌/◌, ◌%◌, ◌<◌, ◌≤◌, ◌&&◌, true, cond, List, [], ◌∷◌}
use Rattle.std.proofs.Common.{◌++◌, length, get_or, Option, Some, None, refl, sym, ap, ◌∙◌, subst, arith}
use Rattle.std.proofs.lemmas.{Bool.Decides.nat_tests, List.append_cancel_right}
use Rattle.std.proofs.lemmas.Option.{option_and_then_some, cond_some, same_Some, some_pair_parts, none-some}
use Rattle.std.specs.{Char.is_ascii_digit, List.AllByRecursion, List.flat_map}
use Rattle.gentime.specs.GenTime.{GeneralizedTime, digit, two_digits, point_and, pairs_of, spelling, IsFraction}
use Rattle.gentime.specs.{GenTime.HasForm, auxiliary.Pairs.pair_at, auxiliary.Pairs.pairs_at}

abbrev IsPair : ℕ → Type 0
IsPair n = n < 100

-- the two digits of a number are read as that number
pub pair_at-two_digits : (n : ℕ) (rest : List ℕ) → n < 100 → pair_at (two_digits n ++ rest) ≡ Some (n, rest)
unfolding pair_at
pair_at-two_digits n rest h =
    let same : (48 + n / 10 - 48) * 10 + (48 + n % 10 - 48) ≡ n = omega arith in
    rw same (grind (arith, nat_tests))

digits_from : (tens ones : ℕ) → (is_ascii_digit tens && is_ascii_digit ones) ≡ true → ((48 ≤ tens) × (tens ≤ 57))
    × ((48 ≤ ones) × (ones ≤ 57))
digits_from tens ones e = grind (arith, nat_tests)

pair_at_inverse : (tens ones : ℕ) (rest : List ℕ) (p : ℕ × List ℕ)
    → cond (is_ascii_digit tens && is_ascii_digit ones) (Some ((tens - 48) * 10 + (ones - 48), rest)) None ≡ Some p
    → (tens ∷ ones ∷ rest ≡ two_digits p.0 ++ p.1) × (p.0 < 100)
pair_at_inverse tens ones rest p e =
    let r = cond_some _ _ _ e in
    let t : ((48 ≤ tens) × (tens ≤ 57)) × ((48 ≤ ones) × (ones ≤ 57)) = digits_from tens ones r.0 in
    let high : digit (((tens - 48) * 10 + (ones - 48)) / 10) ≡ tens = omega arith in
    let low : digit (((tens - 48) * 10 + (ones - 48)) % 10) ≡ ones = omega arith in
    let P : ℕ × List ℕ → Type 0 = λ q. (tens ∷ ones ∷ rest ≡ two_digits q.0 ++ q.1) × (q.0 < 100) in
    subst P r.1 (rw (high, low) refl, omega arith)

-- and nothing else is
pub pair_at_is : (octets : List ℕ) (p : ℕ × List ℕ) → pair_at octets ≡ Some p → (octets ≡ two_digits p.0 ++ p.1)
    × (p.0 < 100)
unfolding pair_at
pair_at_is [] p e = absurd (cc)
pair_at_is (tens ∷ []) p e = absurd (cc)
pair_at_is (tens ∷ ones ∷ rest) p e = pair_at_inverse tens ones rest p e

pub pairs_at-flat_map : (ns rest : List ℕ) → AllByRecursion IsPair ns
    → pairs_at (length ns) (flat_map two_digits ns ++ rest) ≡ Some (ns, rest)
unfolding pairs_at
pairs_at-flat_map [] rest h = refl
pairs_at-flat_map (n ∷ ns) rest h =
    rw (pair_at-two_digits n (flat_map two_digits ns ++ rest) h.0, pairs_at-flat_map ns rest h.1)

abbrev IsRead : ℕ → List ℕ → (List ℕ × List ℕ) → Type 0
IsRead count octets q =
    (octets ≡ flat_map two_digits q.0 ++ q.1) × AllByRecursion IsPair q.0 × (length q.0 ≡ count)

read_none : (octets : List ℕ) (q : List ℕ × List ℕ) → ◌≡◌ {A = Option (List ℕ × List ℕ)} (Some ([], octets)) (Some q)
    → IsRead 0 octets q
read_none octets q e = subst (IsRead 0 octets) (same_Some _ _ e) (refl, tt, refl)

read_more : (count : ℕ) (octets : List ℕ) (first : ℕ × List ℕ) (others q : List ℕ × List ℕ)
    → (octets ≡ two_digits first.0 ++ first.1) × (first.0 < 100) → IsRead count first.1 others
    → ◌≡◌ {A = Option (List ℕ × List ℕ)} (Some (first.0 ∷ others.0, others.1)) (Some q) → IsRead (suc count) octets q
read_more count octets first others q f h e =
    subst (IsRead (suc count) octets) (same_Some _ _ e)
    (f.0 ∙ ap (λ xs. two_digits first.0 ++ xs) h.0, (f.1, h.1), ap suc h.2)

pub pairs_at_is : (count : ℕ) (octets : List ℕ) (q : List ℕ × List ℕ) → pairs_at count octets ≡ Some q
    → IsRead count octets q
unfolding pairs_at
pairs_at_is zero octets q e = read_none octets q e
pairs_at_is (suc count) octets q e =
    option_and_then_some _ (pair_at octets) q e (λ first f g.
    option_and_then_some _ (pairs_at count first.1) q g (λ others k h.
    read_more count octets first others q (pair_at_is octets first f) (pairs_at_is count first.1 others k) h))

-- a stated time's numbers are read, and then its fraction and `Z` are left
pub pairs_at_stated : (octets : List ℕ) (time : GeneralizedTime) → HasForm octets time
    → pairs_at 7 octets ≡ Some (pairs_of time, point_and time.fraction ++ 90 ∷ [])
unfolding spelling
pairs_at_stated octets time s =
    let f = s.formed in
    ap (pairs_at 7) s.spelled
    ∙ pairs_at-flat_map (pairs_of time) (point_and time.fraction ++ 90 ∷ [])
    (omega (arith, f.year), (omega (arith, f.year), (f.month, (f.day, (f.hour, (f.minute, (f.second, tt)))))))

pub none_stated : (octets : List ℕ) (time : GeneralizedTime) → None ≡ pairs_at 7 octets → HasForm octets time → ⊥
none_stated octets time e s = none-some _ (e ∙ pairs_at_stated octets time s)

pub some_stated : (octets pairs rest : List ℕ) (time : GeneralizedTime) → Some (pairs, rest) ≡ pairs_at 7 octets
    → HasForm octets time → (pairs ≡ pairs_of time) × (rest ≡ point_and time.fraction ++ 90 ∷ [])
some_stated octets pairs rest time e s =
    some_pair_parts pairs (pairs_of time) rest (point_and time.fraction ++ 90 ∷ []) (e ∙ pairs_at_stated octets time s)

-- the time with these seven numbers and this fraction
abbrev pub time_with : List ℕ → List ℕ → GeneralizedTime
time_with pairs fraction =
    record {
      year = get_or pairs 0 0 * 100 + get_or pairs 1 0;
      month = get_or pairs 2 0;
      day = get_or pairs 3 0;
      hour = get_or pairs 4 0;
      minute = get_or pairs 5 0;
      second = get_or pairs 6 0;
      fraction = fraction;
    }

pub time_with-pairs_of : (pairs fraction : List ℕ) (time : GeneralizedTime) → pairs ≡ pairs_of time
    → fraction ≡ time.fraction → time_with pairs fraction ≡ time
time_with-pairs_of pairs fraction time e f =
    let year : time.year / 100 * 100 + time.year % 100 ≡ time.year = omega arith in
    rw (e, f, year)

seven : (pairs : List ℕ) → length pairs ≡ 7
    → pairs ≡ get_or pairs 0 0 ∷ get_or pairs 1 0 ∷ get_or pairs 2 0 ∷ get_or pairs 3 0 ∷ get_or pairs 4 0 ∷ get_or
    pairs 5 0 ∷ get_or pairs 6 0 ∷ []
seven [] e = absurd (omega arith)
seven (a ∷ []) e = absurd (omega arith)
seven (a ∷ b ∷ []) e = absurd (omega arith)
seven (a ∷ b ∷ c ∷ []) e = absurd (omega arith)
seven (a ∷ b ∷ c ∷ d ∷ []) e = absurd (omega arith)
seven (a ∷ b ∷ c ∷ d ∷ f ∷ []) e = absurd (omega arith)
seven (a ∷ b ∷ c ∷ d ∷ f ∷ g ∷ []) e = absurd (omega arith)
seven (a ∷ b ∷ c ∷ d ∷ f ∷ g ∷ h ∷ []) e = refl
seven (a ∷ b ∷ c ∷ d ∷ f ∷ g ∷ h ∷ i ∷ ks) e = absurd (omega arith)

-- octets of seven numbers, a fraction and `Z` state that time
pub states_with : (octets pairs rest fraction : List ℕ) → Some (pairs, rest) ≡ pairs_at 7 octets → IsFraction fraction
    → rest ≡ point_and fraction ++ 90 ∷ [] → HasForm octets (time_with pairs fraction)
unfolding spelling
states_with octets pairs rest fraction e f r =
    let q = pairs_at_is 7 octets (pairs, rest) (sym e) in
    let seven_pairs = seven pairs q.2 in
    let all : AllByRecursion IsPair (get_or pairs 0 0 ∷ get_or pairs 1 0 ∷ get_or pairs 2 0 ∷ get_or pairs 3 0 ∷ get_or
    pairs 4 0 ∷ get_or pairs 5 0 ∷ get_or pairs 6 0 ∷ []) = subst (AllByRecursion IsPair) seven_pairs q.1 in
    let high : (get_or pairs 0 0 * 100 + get_or pairs 1 0) / 100 ≡ get_or pairs 0 0 = omega (arith, all.1.0) in
    let low : (get_or pairs 0 0 * 100 + get_or pairs 1 0) % 100 ≡ get_or pairs 1 0 = omega (arith, all.1.0) in
    record {
      formed = record {
        year = omega (arith, all.0, all.1.0);
        month = all.1.1.0;
        day = all.1.1.1.0;
        hour = all.1.1.1.1.0;
        minute = all.1.1.1.1.1.0;
        second = all.1.1.1.1.1.1.0;
        fraction = f;
      };
      spelled = rw (high, low) (q.0 ∙ ap (λ ps. flat_map two_digits ps ++ rest) seven_pairs
          ∙ ap (λ xs. flat_map two_digits (get_or pairs 0 0 ∷ get_or pairs 1 0 ∷ get_or pairs 2 0 ∷ get_or pairs 3 0
          ∷ get_or pairs 4 0 ∷ get_or pairs 5 0 ∷ get_or pairs 6 0 ∷ []) ++ xs) r);
    }

point_and_injective : (a b : List ℕ) → point_and a ≡ point_and b → a ≡ b
point_and_injective [] [] e = refl
point_and_injective [] (y ∷ ys) e = absurd (cc)
point_and_injective (x ∷ xs) [] e = absurd (cc)
point_and_injective (x ∷ xs) (y ∷ ys) e = cc

fraction_stated : (a b : List ℕ) → point_and a ++ 90 ∷ [] ≡ point_and b ++ 90 ∷ [] → a ≡ b
fraction_stated a b e = point_and_injective a b (append_cancel_right (point_and a) (point_and b) (90 ∷ []) e)

-- octets state one time at most
pub stated_once : (octets : List ℕ) (a b : GeneralizedTime) → HasForm octets a → HasForm octets b → a ≡ b
stated_once octets a b s t =
    let same = some_stated octets (pairs_of b) (point_and b.fraction ++ 90 ∷ []) a (sym (pairs_at_stated octets b t))
    s in
    sym (time_with-pairs_of (pairs_of b) b.fraction a same.0 (fraction_stated b.fraction a.fraction same.1))
    ∙ time_with-pairs_of (pairs_of b) b.fraction b refl refl
