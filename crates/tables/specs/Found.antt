-- What a look-up in rows says, whatever their order.
use Rattle.std.specs.Prelude.{◌≡◌, ℕ, ◌≤◌, Bool, true, false, List, map, filter, Option, Some, None, Contains}
use Rattle.std.specs.{Prelude.IsPermutation, List.Sorted.IsNonDecreasingBy}

-- none passes the test, or this is what one shows that does
abbrev pub IsFoundAs : {X Y : Type 0} → (X → Y → Type 0) → (X → Bool) → List X → Option Y → Type 0
IsFoundAs {X} Shows test rows None = (x : X) → Contains rows x → test x ≡ false
IsFoundAs {X} Shows test rows (Some y) = (x : X) × Contains rows x × (test x ≡ true) × Shows x y

-- there is none, or this is what one shows that has the greatest key
abbrev pub IsGreatestAs : {X Y : Type 0} → (X → Y → Type 0) → (X → ℕ) → List X → Option Y → Type 0
IsGreatestAs {X} Shows key rows None = (x : X) → Contains rows x → ⊥
IsGreatestAs {X} Shows key rows (Some y) =
    (x : X) × Contains rows x × ((other : X) → Contains rows other → key other ≤ key x) × Shows x y

-- none passes the test, or this is what the one shows that passes and has the least key
abbrev pub IsLeastAs : {X Y : Type 0} → (X → Y → Type 0) → (X → ℕ) → (X → Bool) → List X → Option Y → Type 0
IsLeastAs {X} Shows key test rows None = (x : X) → Contains rows x → test x ≡ false
IsLeastAs {X} Shows key test rows (Some y) =
    (x : X) × Contains rows x × (test x ≡ true)
    × ((other : X) → Contains rows other → test other ≡ true → key x ≤ key other) × Shows x y

-- what is shown of all that pass the test, by their numbers
pub record AreFoundAs {X Y : Type 0} (shown : X → Y) (number : Y → ℕ) (test : X → Bool) (rows : List X)
    (found : List Y) : Type 0 where
  pub same : IsPermutation (map shown (filter test rows)) found
  pub rising : IsNonDecreasingBy number found
