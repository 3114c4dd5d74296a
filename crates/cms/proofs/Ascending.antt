-- Octets put into their place among others in ascending order.
use Rattle.std.proofs.Common.{◌≡◌, ℕ, zero, suc, ◌+◌, ◌<◌, ◌≤◌, Bool, true, false, cond, List, [], ◌∷◌, ◌++◌, Bor}
use Rattle.std.proofs.Common.{length, get_or, drop, map, refl, sym, ap, ◌∙◌, subst, arith, add-one, drop-cons}
use Rattle.std.{proofs.Common.append_assoc, specs.Cmp.Lexicographic.slice_cmp}
use Rattle.std.proofs.lemmas.List.Sums.{prefix_len-drop_yes, prefix_len-drop_no, prefix_len-le-length}
use Rattle.std.specs.Ordering.{nat_cmp, is_lt, is_gt, ordering_reverse}
use Rattle.std.specs.declared.cmp.Ordering.{Ordering, TheVariants.Less, TheVariants.Equal, TheVariants.Greater}
use Rattle.std.specs.List.{AllByRecursion, prefix_len, insert, Sorted.IsPermutation}
use Rattle.std.proofs.lemmas.{Cmp.nat_list_cmp_total, Cmp.upto, List.append-nil, List.get_or-map, List.length-map}
use Rattle.std.proofs.lemmas.List.Sorted.{IsPermutation-refl, IsPermutation-trans, IsPermutation-middle}
use Rattle.std.proofs.lemmas.List.Sorted.{IsPermutation-append_left, IsPermutation-insert}
use Rattle.cms.specs.Grammar.{joined}
use Rattle.cms.specs.SetOf.{comes_before, inserted, inserted_all, ascending, IsAscending}

-- octets stand behind those from the front on that come before them
pub inserted_is : (octets : List ℕ) (xs : List (List ℕ))
    → inserted octets xs ≡ insert xs (prefix_len (comes_before octets) xs) octets
inserted_is octets [] = refl
inserted_is octets (x ∷ xs) = by_test (comes_before octets x) (inserted_is octets xs)
  where
    by_test : (t : Bool) → inserted octets xs ≡ insert xs (prefix_len (comes_before octets) xs) octets
        → cond t (x ∷ inserted octets xs) (octets ∷ x ∷ xs)
        ≡ insert (x ∷ xs) (cond t (1 + prefix_len (comes_before octets) xs) 0) octets
    by_test true others =
        let n = prefix_len (comes_before octets) xs in
        let next : 1 + n ≡ suc n = omega arith in
        ap (λ l. x ∷ l) others ∙ ap (λ k. insert (x ∷ xs) k octets) (sym next)
    by_test false others = refl

-- ---- their place, found from the front on

told_before : (xs : List (Bor (List ℕ))) (octets : List ℕ) (i : ℕ) (d : Bor (List ℕ)) (o : Ordering) (r : Bool)
    → i < length xs → o ≡ slice_cmp nat_cmp (get_or xs i d).now octets → r ≡ is_lt o
    → comes_before octets (get_or (map (λ x. x.now) xs) i []) ≡ r
told_before xs octets i d o r within order told =
    ap (comes_before octets) (get_or-map (λ x. x.now) xs i d [] within) ∙ ap is_lt (sym order) ∙ sym told

abbrev pub IsPlaceSoFar : List (Bor (List ℕ)) → List ℕ → ℕ → Type 0
IsPlaceSoFar xs octets i =
    (i ≤ length xs)
    × (prefix_len (comes_before octets) (map (λ x. x.now) xs)
    ≡ i + prefix_len (comes_before octets) (drop i (map (λ x. x.now) xs)))

pub one_before : (xs : List (Bor (List ℕ))) (octets : List ℕ) (i : ℕ) (d : Bor (List ℕ)) (o : Ordering) (r : Bool)
    → i < length xs → o ≡ slice_cmp nat_cmp (get_or xs i d).now octets → r ≡ is_lt o → r ≡ true
    → IsPlaceSoFar xs octets i → IsPlaceSoFar xs octets (i + 1)
one_before xs octets i d o r within order told is so_far =
    let count = length-map xs (λ (x : Bor (List ℕ)). x.now) in
    let next = prefix_len-drop_yes (comes_before octets) (map (λ x. x.now) xs) i [] (omega (arith, within, count))
    (told_before xs octets i d o r within order told ∙ is) in
    (omega (arith, within), omega (arith, so_far.1, next))

pub none_before : (xs : List (Bor (List ℕ))) (octets : List ℕ) (i : ℕ) (d : Bor (List ℕ)) (o : Ordering) (r : Bool)
    → i < length xs → o ≡ slice_cmp nat_cmp (get_or xs i d).now octets → r ≡ is_lt o → r ≡ false
    → IsPlaceSoFar xs octets i → i ≡ prefix_len (comes_before octets) (map (λ x. x.now) xs)
none_before xs octets i d o r within order told is so_far =
    let count = length-map xs (λ (x : Bor (List ℕ)). x.now) in
    let next = prefix_len-drop_no (comes_before octets) (map (λ x. x.now) xs) i [] (omega (arith, within, count))
    (told_before xs octets i d o r within order told ∙ is) in
    omega (arith, so_far.1, next)

map_insert : {A B : Type 0} (f : A → B) (n : ℕ) (xs : List A) (x : A)
    → map f (insert xs n x) ≡ insert (map f xs) n (f x)
map_insert f zero xs x = refl
map_insert f (suc n) [] x = refl
map_insert f (suc n) (y ∷ ys) x = ap (λ l. f y ∷ l) (map_insert f n ys x)

pub inserted_at : (xs ys : List (Bor (List ℕ))) (o : Bor (List ℕ)) (n : ℕ)
    → n ≡ prefix_len (comes_before o.now) (map (λ x. x.now) xs) → ys ≡ insert xs n o
    → map (λ x. x.now) ys ≡ inserted o.now (map (λ x. x.now) xs)
inserted_at xs ys o n place is =
    ap (map (λ x. x.now)) is ∙ map_insert (λ x. x.now) n xs o
    ∙ ap (λ k. insert (map (λ (x : Bor (List ℕ)). x.now) xs) k o.now) place
    ∙ sym (inserted_is o.now (map (λ x. x.now) xs))

-- ---- one after the other

left_at : (xs : List (Bor (List ℕ))) (i : ℕ) (d : Bor (List ℕ)) → i < length xs
    → drop i (map (λ x. x.now) xs) ≡ (get_or xs i d).now ∷ drop (i + 1) (map (λ x. x.now) xs)
left_at xs i d within =
    let all : List (List ℕ) = map (λ x. x.now) xs in
    let count = length-map xs (λ (x : Bor (List ℕ)). x.now) in
    let o = (get_or xs i d).now in
    let here : o ≡ get_or all i o = sym (get_or-map (λ x. x.now) xs i d o within) in
    rw (add-one, drop-cons all i o (omega (arith, within, count)), ← here) refl

pub sorted_more : (xs before after : List (Bor (List ℕ))) (i : ℕ) (d : Bor (List ℕ)) (whole : List (List ℕ))
    → i < length xs → map (λ x. x.now) after ≡ inserted (get_or xs i d).now (map (λ x. x.now) before)
    → inserted_all (map (λ x. x.now) before) (drop i (map (λ x. x.now) xs)) ≡ whole
    → inserted_all (map (λ x. x.now) after) (drop (i + 1) (map (λ x. x.now) xs)) ≡ whole
sorted_more xs before after i d whole within is so_far =
    ap (λ l. inserted_all l (drop (i + 1) (map (λ (x : Bor (List ℕ)). x.now) xs))) is
    ∙ ap (inserted_all (map (λ x. x.now) before)) (sym (left_at xs i d within)) ∙ so_far

pub joined_more : (xs : List (Bor (List ℕ))) (before after : List ℕ) (i : ℕ) (d : Bor (List ℕ)) (whole : List ℕ)
    → i < length xs → after ≡ before ++ (get_or xs i d).now
    → before ++ joined (drop i (map (λ x. x.now) xs)) ≡ whole
    → after ++ joined (drop (i + 1) (map (λ x. x.now) xs)) ≡ whole
joined_more xs before after i d whole within is so_far =
    ap (λ l. l ++ joined (drop (i + 1) (map (λ (x : Bor (List ℕ)). x.now) xs))) is
    ∙ append_assoc before (get_or xs i d).now _
    ∙ ap (λ l. before ++ joined l) (sym (left_at xs i d within)) ∙ so_far

-- ---- the order

gt_of_reverse : (o : Ordering) → is_gt (ordering_reverse o) ≡ is_lt o
gt_of_reverse Less = refl
gt_of_reverse Equal = refl
gt_of_reverse Greater = refl

not_both : (o : Ordering) → is_lt o ≡ true → is_gt o ≡ false
not_both Less e = refl
not_both Equal e = cc
not_both Greater e = cc

turned : (x y : List ℕ) → is_gt (slice_cmp nat_cmp x y) ≡ comes_before x y
turned x y = ap is_gt (nat_list_cmp_total.antisymm x y) ∙ gt_of_reverse (slice_cmp nat_cmp y x)

not_after : (x y : List ℕ) → comes_before x y ≡ true → comes_before y x ≡ false
not_after x y e = sym (turned y x) ∙ not_both (slice_cmp nat_cmp y x) e

further_behind : (x y z : List ℕ) → comes_before x y ≡ false → comes_before y z ≡ false → comes_before x z ≡ false
further_behind x y z a b = sym (turned x z) ∙ upto nat_list_cmp_total x y z (turned x y ∙ a) (turned y z ∙ b)

-- ---- what is inserted stands in order

abbrev AreBehind : List ℕ → List (List ℕ) → Type 0
AreBehind first others = AllByRecursion (λ other. comes_before first other ≡ false) others

behind_inserted : (first x : List ℕ) (xs : List (List ℕ)) → AreBehind first xs → comes_before first x ≡ false
    → AreBehind first (inserted x xs)
behind_inserted first x [] h e = (e, tt)
behind_inserted first x (y ∷ ys) h e = by_test (comes_before x y) (behind_inserted first x ys h.1 e)
  where
    by_test : (t : Bool) → AreBehind first (inserted x ys)
        → AreBehind first (cond t (y ∷ inserted x ys) (x ∷ y ∷ ys))
    by_test true others = (h.0, others)
    by_test false others = (e, h)

behind_lower : (x y : List ℕ) (zs : List (List ℕ)) → comes_before x y ≡ false → AreBehind y zs → AreBehind x zs
behind_lower x y [] e h = tt
behind_lower x y (z ∷ zs) e h = (further_behind x y z e h.0, behind_lower x y zs e h.1)

ascending_inserted : (x : List ℕ) (xs : List (List ℕ)) → IsAscending xs → IsAscending (inserted x xs)
ascending_inserted x [] h = (tt, tt)
ascending_inserted x (y ∷ ys) h = by_test (comes_before x y) refl (ascending_inserted x ys h.1)
  where
    by_test : (t : Bool) → comes_before x y ≡ t → IsAscending (inserted x ys)
        → IsAscending (cond t (y ∷ inserted x ys) (x ∷ y ∷ ys))
    by_test true e others = (behind_inserted y x ys h.0 (not_after x y e), others)
    by_test false e others = ((e, behind_lower x y ys e h.0), h)

all_ascend : (sorted xs : List (List ℕ)) → IsAscending sorted → IsAscending (inserted_all sorted xs)
all_ascend sorted [] h = h
all_ascend sorted (x ∷ xs) h = all_ascend (inserted x sorted) xs (ascending_inserted x sorted h)

pub is_ascending : (xs : List (List ℕ)) → IsAscending (ascending xs)
is_ascending xs = all_ascend [] xs tt

-- ---- and nothing else does

one_more : (x : List ℕ) (xs : List (List ℕ)) → IsPermutation (x ∷ xs) (inserted x xs)
one_more x xs = subst (IsPermutation (x ∷ xs)) (sym (inserted_is x xs))
    (IsPermutation-insert xs (prefix_len (comes_before x) xs) x)

all_more : (sorted xs : List (List ℕ)) → IsPermutation (sorted ++ xs) (inserted_all sorted xs)
all_more sorted [] = subst (λ l. IsPermutation l sorted) (sym (append-nil sorted)) (IsPermutation-refl sorted)
all_more sorted (x ∷ xs) =
    IsPermutation-trans _ _ _ (IsPermutation-middle sorted x xs)
    (IsPermutation-trans _ _ _ (IsPermutation-append_left xs (x ∷ sorted) (inserted x sorted) (one_more x sorted))
    (all_more (inserted x sorted) xs))

pub is_permutation : (xs : List (List ℕ)) → IsPermutation xs (ascending xs)
is_permutation xs = all_more [] xs

pub ruleset insert_laws = (length-map, prefix_len-le-length, inserted_at)
