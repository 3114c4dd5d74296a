-- A value among those that elements stand for.
use Rattle.std.proofs.Common.{◌≡◌, ℕ, ◌<◌, Bool, true, false, List, [], ◌∷◌, map, length, refl, sym, ◌∙◌, arith}
use Rattle.std.specs.{Prelude.Contains, Prelude.◌↔◌, Prelude.IsTrue, Bool.MatchBool, List.HoldsAt, List.AllWithin}
use Rattle.std.proofs.lemmas.List.{length-map, get_or-map}

-- an element with a value, where the value is among those of all
value_among : {A B : Type 0} (view : A → B) (xs : List A) (y : B)
    → (k : ℕ) × (k < length xs) × HoldsAt (λ x. view x ≡ y) xs k → Contains (map view xs) y
value_among view [] y h = absurd (omega (arith, h.1))
value_among view (x ∷ xs) y h =
    (h.0, omega (arith, h.1, length-map (x ∷ xs) view), get_or-map view (x ∷ xs) h.0 x y h.1 ∙ h.2 x)

-- ..and none, where it isn't
no_value : {A B : Type 0} (view : A → B) (xs : List A) (y : B)
    → AllWithin (λ x. view x ≡ y → ⊥) xs 0 (length xs) → Contains (map view xs) y → ⊥
no_value view [] y none h = absurd (omega (arith, h.1))
no_value view (x ∷ xs) y none h =
    let within : h.0 < length (x ∷ xs) = omega (arith, h.1, length-map (x ∷ xs) view) in
    none h.0 x (omega arith) within (sym (get_or-map view (x ∷ xs) h.0 x y within) ∙ h.2)

-- a search for an element with the value tells whether the value is among those of all
pub tells_among : {A B : Type 0} (view : A → B) (xs : List A) (y : B) (r : Bool)
    → MatchBool r ((k : ℕ) × (k < length xs) × HoldsAt (λ x. view x ≡ y) xs k)
    (AllWithin (λ x. view x ≡ y → ⊥) xs 0 (length xs)) → IsTrue r ↔ Contains (map view xs) y
tells_among view xs y true h = (λ _. value_among view xs y h, λ _. refl)
tells_among view xs y false h = (λ e. absurd (cc e), λ among. absurd (no_value view xs y h among))
