-- Tests over lists, and what they tell of the values that the elements stand for.
use Rattle.std.proofs.Common.{◌≡◌, zero, suc, Bool, true, false, Some, is_some, List, [], ◌∷◌, map, refl, sym, ap}
use Rattle.std.proofs.Common.{subst, inl, inr, ◌⊎◌, arith}
use Rattle.std.specs.{Prelude.Contains, Bool.Decides, List.list_any, List.list_all, List.find}
use Rattle.std.proofs.lemmas.Bool.Decides.{Decides-like, Decides-or, Decides-and}

pub contains_here : {A : Type 0} (x : A) (xs : List A) → Contains (x ∷ xs) x
contains_here x xs = (0, omega arith, refl)

pub contains_there : {A : Type 0} (x y : A) (xs : List A) → Contains xs y → Contains (x ∷ xs) y
contains_there x y xs h = (suc h.0, omega (arith, h.1), h.2)

pub contains_none : {A : Type 0} (y : A) → Contains [] y → ⊥
contains_none y h = omega (arith, h.1)

pub contains_first_or_other : {A : Type 0} (x y : A) (xs : List A) → Contains (x ∷ xs) y → (x ≡ y) ⊎ Contains xs y
contains_first_or_other x y xs (zero, l, e) = inl e
contains_first_or_other x y xs (suc k, l, e) = inr (k, omega (arith, l), e)

any_from : {A B : Type 0} (view : A → B) (P : B → Type 0) (x : A) (xs : List A) (y : B)
    → (view x ≡ y) ⊎ Contains (map view xs) y → P y → P (view x) ⊎ ((z : B) × Contains (map view xs) z × P z)
any_from view P x xs y (inl e) p = inl (subst P (sym e) p)
any_from view P x xs y (inr h) p = inr (y, h, p)

any_forward : {A B : Type 0} (view : A → B) (P : B → Type 0) (x : A) (xs : List A)
    → P (view x) ⊎ ((y : B) × Contains (map view xs) y × P y) → (y : B) × Contains (map view (x ∷ xs)) y × P y
any_forward view P x xs (inl p) = (view x, contains_here (view x) (map view xs), p)
any_forward view P x xs (inr w) = (w.0, contains_there (view x) w.0 (map view xs) w.1, w.2)

any_backward : {A B : Type 0} (view : A → B) (P : B → Type 0) (x : A) (xs : List A)
    → (y : B) × Contains (map view (x ∷ xs)) y × P y → P (view x) ⊎ ((y : B) × Contains (map view xs) y × P y)
any_backward view P x xs (y, h, p) = any_from view P x xs y (contains_first_or_other (view x) y (map view xs) h) p

-- a test that finds an element tells that one of the values has P
pub decides_any : {A B : Type 0} (view : A → B) (test : A → Bool) (P : B → Type 0)
    → ((x : A) → Decides (test x) (P (view x)))
    → (xs : List A) → Decides (list_any test xs) ((y : B) × Contains (map view xs) y × P y)
decides_any view test P each [] = (λ h. cc h, λ w. absurd (contains_none w.0 w.1))
decides_any view test P each (x ∷ xs) =
    let others = decides_any view test P each xs in
    let both = Decides-or (test x) (list_any test xs) (each x) others in
    Decides-like (list_any test (x ∷ xs)) (any_forward view P x xs) (any_backward view P x xs) both

pub map_id : {A : Type 0} (xs : List A) → map (λ x. x) xs ≡ xs
map_id [] = refl
map_id (x ∷ xs) = ap (λ ys. x ∷ ys) (map_id xs)

all_from : {A B : Type 0} (view : A → B) (P : B → Type 0) (x : A) (xs : List A) → P (view x)
    × ((y : B) → Contains (map view xs) y → P y)
    → (y : B) → (view x ≡ y) ⊎ Contains (map view xs) y → P y
all_from view P x xs w y (inl e) = subst P e w.0
all_from view P x xs w y (inr h) = w.1 y h

-- a test that all elements pass tells that each value has P
pub decides_all : {A B : Type 0} (view : A → B) (test : A → Bool) (P : B → Type 0)
    → ((x : A) → Decides (test x) (P (view x)))
    → (xs : List A) → Decides (list_all test xs) ((y : B) → Contains (map view xs) y → P y)
decides_all view test P each [] = (λ h y c. absurd (contains_none y c), λ w. refl)
decides_all view test P each (x ∷ xs) =
    let others = decides_all view test P each xs in
    let both = Decides-and (test x) (list_all test xs) (each x) others in
    Decides-like (list_all test (x ∷ xs))
    (λ w y h. all_from view P x xs w y (contains_first_or_other (view x) y (map view xs) h))
    (λ w. (w (view x) (contains_here (view x) (map view xs)), λ y h. w y (contains_there (view x) y (map view xs) h)))
    both

found_at : {A : Type 0} (test : A → Bool) (x : A) (xs : List A) (b : Bool) → test x ≡ b
    → is_some (find test xs) ≡ list_any test xs
    → is_some (find test (x ∷ xs)) ≡ list_any test (x ∷ xs)
found_at test x xs true e h = rw e refl
found_at test x xs false e h = rw e h

-- a search finds an element where one passes the test
pub decides_found : {A : Type 0} (test : A → Bool) (xs : List A) → is_some (find test xs) ≡ list_any test xs
decides_found test [] = refl
decides_found test (x ∷ xs) = found_at test x xs (test x) refl (decides_found test xs)

found_passes_at : {A : Type 0} (test : A → Bool) (y : A) (ys : List A) (x : A) (b : Bool) → test y ≡ b
    → (find test ys ≡ Some x → test x ≡ true) → find test (y ∷ ys) ≡ Some x → test x ≡ true
found_passes_at test y ys x true e ih h = let same : y ≡ x = let k = rw e at h in cc in rw same at e
found_passes_at test y ys x false e ih h = ih (rw e at h)

-- what a search finds passes the test
pub found_passes : {A : Type 0} (test : A → Bool) (xs : List A) (x : A) → find test xs ≡ Some x → test x ≡ true
found_passes test [] x h = cc h
found_passes test (y ∷ ys) x h = found_passes_at test y ys x (test y) refl (found_passes test ys x) h
