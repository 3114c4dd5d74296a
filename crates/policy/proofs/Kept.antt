-- The elements that pass a test, seen as values.
use Rattle.std.proofs.Common.{◌≡◌, Bool, true, false, List, [], ◌∷◌, map, refl, ap}
use Rattle.std.specs.List.{filter}

one_more : {A B C : Type 0} (view : A → B) (test : B → Bool) (f : B → C) (x : A) (xs : List A) (b : Bool)
    → test (view x) ≡ b → map (λ x. f (view x)) (filter (λ x. test (view x)) xs) ≡ map f (filter test (map view xs))
    → map (λ x. f (view x)) (filter (λ x. test (view x)) (x ∷ xs)) ≡ map f (filter test (map view (x ∷ xs)))
one_more view test f x xs true e h = rw e (ap (λ ys. f (view x) ∷ ys) h)
one_more view test f x xs false e h = rw e h

-- the elements whose values pass, seen as values
pub kept_values : {A B C : Type 0} (view : A → B) (test : B → Bool) (f : B → C) (xs : List A)
    → map (λ x. f (view x)) (filter (λ x. test (view x)) xs) ≡ map f (filter test (map view xs))
kept_values view test f [] = refl
kept_values view test f (x ∷ xs) = one_more view test f x xs (test (view x)) refl (kept_values view test f xs)
