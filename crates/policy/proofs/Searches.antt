-- Searches among the values that elements stand for.
use Rattle.std.proofs.Common.{◌≡◌, Bool, true, false, ◌||◌, Option, Some, None, is_some, option_map, List, [], ◌∷◌, map}
use Rattle.std.proofs.Common.{refl, ap, sym, ◌∙◌}
use Rattle.std.specs.List.{find, list_any}

-- one of the values passes a test where one of the elements passes the test of its value
pub any_value : {A B : Type 0} (test : B → Bool) (view : A → B) (xs : List A)
    → list_any test (map view xs) ≡ list_any (λ x. test (view x)) xs
any_value test view [] = refl
any_value test view (x ∷ xs) = ap (λ b. test (view x) || b) (any_value test view xs)

found_or_later : {A B : Type 0} (view : A → B) (test : B → Bool) (x : A) (xs : List A) (b : Bool) → test (view x) ≡ b
    → find test (map view xs) ≡ option_map view (find (λ x. test (view x)) xs)
    → find test (map view (x ∷ xs)) ≡ option_map view (find (λ x. test (view x)) (x ∷ xs))
found_or_later view test x xs true e h = rw e refl
found_or_later view test x xs false e h = rw e h

-- the first value that passes a test is that of the first element whose value does
pub first_value : {A B : Type 0} (view : A → B) (test : B → Bool) (xs : List A)
    → find test (map view xs) ≡ option_map view (find (λ x. test (view x)) xs)
first_value view test [] = refl
first_value view test (x ∷ xs) = found_or_later view test x xs (test (view x)) refl (first_value view test xs)

map_twice : {A B C : Type 0} (now : A → B) (view : B → C) (o : Option A)
    → option_map (λ x. view (now x)) o ≡ option_map view (option_map now o)
map_twice now view None = refl
map_twice now view (Some x) = refl

-- what a search among elements answered is, seen as a value, what the search among the values finds
pub found_value : {A B C : Type 0} (now : A → B) (view : B → C) (test : C → Bool) (o : Option A) (xs : List B)
    → option_map now o ≡ find (λ x. test (view x)) xs → option_map (λ x. view (now x)) o ≡ find test (map view xs)
found_value now view test o xs e = map_twice now view o ∙ ap (option_map view) e ∙ sym (first_value view test xs)

found_at_or_later : {A : Type 0} (test : A → Bool) (x : A) (xs : List A) (b : Bool) → test x ≡ b
    → is_some (find test xs) ≡ list_any test xs
    → is_some (find test (x ∷ xs)) ≡ list_any test (x ∷ xs)
found_at_or_later test x xs true e h = rw e refl
found_at_or_later test x xs false e h = rw e h

-- a search finds an element where one passes the test
pub found_where_any : {A : Type 0} (test : A → Bool) (xs : List A) → is_some (find test xs) ≡ list_any test xs
found_where_any test [] = refl
found_where_any test (x ∷ xs) = found_at_or_later test x xs (test x) refl (found_where_any test xs)

is_some_map : {A B : Type 0} (f : A → B) (o : Option A) → is_some (option_map f o) ≡ is_some o
is_some_map f None = refl
is_some_map f (Some x) = refl

-- a search among elements finds one where one of the values passes the test
pub found_tells : {A B C : Type 0} (now : A → B) (view : B → C) (test : C → Bool) (o : Option A) (xs : List B)
    → option_map now o ≡ find (λ x. test (view x)) xs → is_some o ≡ list_any test (map view xs)
found_tells now view test o xs e =
    sym (is_some_map now o) ∙ ap is_some e ∙ found_where_any (λ x. test (view x)) xs ∙ sym (any_value test view xs)
