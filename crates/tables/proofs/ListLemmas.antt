-- Lists: a test that splits a list, an image of one, and what permutations keep.
use Rattle.tables.proofs.Words.{Bool, Contains-permutation, Has, IsPermutation, IsPermutation-cons}
use Rattle.tables.proofs.Words.{IsPermutation-middle, IsPermutation-refl, IsPermutation-sym, IsPermutation-trans, List}
use Rattle.tables.proofs.Words.{[], ap, arith, cond, contains_had, false, filter, flat_map, get_or, has_contained, inl}
use Rattle.tables.proofs.Words.{inr, length, list_any, map, not, refl, suc, sym, true, zero, ℕ, ◌++◌, ◌<◌, ◌||◌, ◌∷◌}
use Rattle.tables.proofs.Words.{◌≡◌, ◌≢◌}

pub same_truth : (a b : Bool) → (a ≡ true → b ≡ true) → (b ≡ true → a ≡ true) → a ≡ b
same_truth true b on back = sym (on refl)
same_truth false true on back = back refl
same_truth false false on back = refl

pub has_permutation : {X : Type 0} (xs ys : List X) (x : X) → IsPermutation xs ys → Has xs x → Has ys x
has_permutation xs ys x same h = has_contained ys x (Contains-permutation xs ys x same (contains_had xs x h))

pub has_image : {X Y : Type 0} (f : X → Y) (xs : List X) (x : X) → Has xs x → Has (map f xs) (f x)
has_image f [] x h = absurd h
has_image f (y ∷ xs) x (inl same) = inl (ap f same)
has_image f (y ∷ xs) x (inr later) = inr (has_image f xs x later)

pub image_has : {X Y : Type 0} (f : X → Y) (xs : List X) (y : Y) → Has (map f xs) y → (x : X) × Has xs x × (y ≡ f x)
image_has f [] y h = absurd h
image_has f (x ∷ xs) y (inl same) = (x, inl refl, same)
image_has f (x ∷ xs) y (inr later) = let found = image_has f xs y later in (found.0, inr found.1, found.2)

pub filter_true : {X : Type 0} (xs : List X) → filter (λ x. true) xs ≡ xs
filter_true [] = refl
filter_true (x ∷ xs) = ap (λ l. x ∷ l) (filter_true xs)

pub filter_neither : {X : Type 0} (a b : X → Bool) (xs : List X) → filter (λ x. not (b x)) (filter (λ x. not (a x)) xs)
    ≡ filter (λ x. not (a x || b x)) xs
filter_neither a b [] = refl
filter_neither a b (x ∷ xs) = go (a x) (filter_neither a b xs)
  where
    go : (c : Bool) → filter (λ y. not (b y)) (filter (λ y. not (a y)) xs) ≡ filter (λ y. not (a y || b y)) xs
        → filter (λ y. not (b y)) (cond (not c) (x ∷ filter (λ y. not (a y)) xs) (filter (λ y. not (a y)) xs))
        ≡ cond (not (c || b x)) (x ∷ filter (λ y. not (a y || b y)) xs) (filter (λ y. not (a y || b y)) xs)
    go true later = later
    go false later = ap (λ l. cond (not (b x)) (x ∷ l) l) later

pub flat_map_tested : {X Y : Type 0} (p : X → Bool) (f : X → Y) (xs : List X)
    → flat_map (λ x. cond (p x) (f x ∷ []) []) xs ≡ map f (filter p xs)
flat_map_tested p f [] = refl
flat_map_tested p f (x ∷ xs) =
    elim (p x) as (λ b. cond b (f x ∷ []) [] ++ flat_map (λ y. cond (p y) (f y ∷ []) []) xs
    ≡ map f (cond b (x ∷ filter p xs) (filter p xs)))
    [ true ↦ ap (λ l. f x ∷ l) (flat_map_tested p f xs) | false ↦ flat_map_tested p f xs ]

-- changing what passes is changing it apart from the rest
pub split_changed : {X : Type 0} (p : X → Bool) (f : X → X) (xs : List X)
    → IsPermutation (map (λ x. cond (p x) (f x) x) xs) (map f (filter p xs) ++ filter (λ x. not (p x)) xs)
split_changed p f [] = IsPermutation-refl []
split_changed p f (x ∷ xs) =
    elim (p x) as (λ b. IsPermutation (cond b (f x) x ∷ map (λ y. cond (p y) (f y) y) xs)
    (map f (cond b (x ∷ filter p xs) (filter p xs))
    ++ cond (not b) (x ∷ filter (λ y. not (p y)) xs) (filter (λ y. not (p y)) xs))) [
      | true ↦ IsPermutation-cons (f x) _ _ (split_changed p f xs)
      | false ↦ IsPermutation-trans _ _ _ (IsPermutation-cons x _ _ (split_changed p f xs))
          (IsPermutation-sym _ _ (IsPermutation-middle (map f (filter p xs)) x (filter (λ y. not (p y)) xs)))
    ]

pub map_same : {X Y : Type 0} (f g : X → Y) → ((x : X) → f x ≡ g x) → (xs : List X) → map f xs ≡ map g xs
map_same f g same [] = refl
map_same f g same (x ∷ xs) = rw (same x, map_same f g same xs)

pub map_same_in : {X Y : Type 0} (f g : X → Y) (xs : List X) → ((x : X) → Has xs x → f x ≡ g x) → map f xs ≡ map g xs
map_same_in f g [] same = refl
map_same_in f g (x ∷ xs) same = rw (same x (inl refl), map_same_in f g xs (λ y known. same y (inr known)))

pub filter_equal : {X : Type 0} (p q : X → Bool) → ((x : X) → p x ≡ q x) → (xs : List X) → filter p xs ≡ filter q xs
filter_equal p q same [] = refl
filter_equal p q same (x ∷ xs) = rw (same x, filter_equal p q same xs)

-- a test fails throughout where none passes
pub none_any : {X : Type 0} (p : X → Bool) (xs : List X) → length (filter p xs) ≡ 0 → list_any p xs ≡ false
none_any p [] none = refl
none_any p (x ∷ xs) none = go (p x) none (none_any p xs)
  where
    go : (b : Bool) → length (cond b (x ∷ filter p xs) (filter p xs)) ≡ 0
        → (length (filter p xs) ≡ 0 → list_any p xs ≡ false) → (b || list_any p xs) ≡ false
    go true h later = absurd (omega (arith, h))
    go false h later = later h

pub some_any : {X : Type 0} (p : X → Bool) (xs : List X) → length (filter p xs) ≢ 0 → list_any p xs ≡ true
some_any p [] some = absurd (some refl)
some_any p (x ∷ xs) some = go (p x) some (some_any p xs)
  where
    go : (b : Bool) → length (cond b (x ∷ filter p xs) (filter p xs)) ≢ 0
        → (length (filter p xs) ≢ 0 → list_any p xs ≡ true) → (b || list_any p xs) ≡ true
    go true h later = refl
    go false h later = later h

-- what stands past the end says nothing of what is within
pub any_default : {X : Type 0} (xs : List X) (i : ℕ) (d e : X) → i < length xs → get_or xs i d ≡ get_or xs i e
any_default [] i d e within = absurd (omega (arith, within))
any_default (x ∷ xs) zero d e within = refl
any_default (x ∷ xs) (suc i) d e within = any_default xs i d e (omega (arith, within))
