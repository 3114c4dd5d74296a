-- Members of a list: where they stand, and searches that find one.
use Rattle.store.proofs.Words.{AllByRecursion, Bool, Contains, IsFoundAs, IsGreatestAs, List, None, Option, Some, []}
use Rattle.store.proofs.Words.{ap, arith, cases_Bool, false, find, first_of, inl, inr, list_any, map, or_parts, refl}
use Rattle.store.proofs.Words.{subst, suc, sym, true, zero, ℕ, ◌<◌, ◌||◌, ◌∙◌, ◌∷◌, ◌≡◌, ◌⊎◌}

pub member_here : {X : Type 0} (x : X) (xs : List X) → Contains (x ∷ xs) x
member_here x xs = (0, omega arith, refl)

pub member_after : {X : Type 0} (x y : X) (xs : List X) → Contains xs y → Contains (x ∷ xs) y
member_after x y xs (k, below, is) = (suc k, omega arith, is)

pub member_cases : {X : Type 0} (x y : X) (xs : List X) → Contains (x ∷ xs) y → (x ≡ y) ⊎ Contains xs y
member_cases x y xs (zero, below, is) = inl is
member_cases x y xs (suc k, below, is) = inr (k, omega arith, is)

pub no_member : {X : Type 0} (y : X) → Contains [] y → ⊥
no_member y (k, below, is) = absurd (omega arith)

-- what holds of all holds of a member
pub all_of : {X : Type 0} (P : X → Type 0) (xs : List X) (y : X) → AllByRecursion P xs → Contains xs y → P y
all_of P [] y all m = absurd (no_member y m)
all_of P (x ∷ xs) y all m = elim (member_cases x y xs m) [ inl e ↦ subst P e all.0 | inr m ↦ all_of P xs y all.1 m ]

pub each_of : {X : Type 0} (P : X → Type 0) (xs : List X) → ((y : X) → Contains xs y → P y) → AllByRecursion P xs
each_of P [] f = tt
each_of P (x ∷ xs) f = (f x (member_here x xs), each_of P xs (λ y m. f y (member_after x y xs m)))

-- a member that passes makes some pass
pub some_pass : {X : Type 0} (p : X → Bool) (xs : List X) (y : X) → Contains xs y → p y ≡ true → list_any p xs ≡ true
some_pass p [] y m e = absurd (no_member y m)
some_pass p (x ∷ xs) y m e =
    elim (member_cases x y xs m) [
      | inl same ↦ (let P = λ (v : Bool). (v || list_any p xs) ≡ true in subst P (sym (ap p same ∙ e)) refl)
      | inr m ↦ rw (some_pass p xs y m e) (or_true (p x))
    ] where
      or_true : (a : Bool) → (a || true) ≡ true
      or_true true = refl
      or_true false = refl

pub none_pass : {X : Type 0} (p : X → Bool) (xs : List X) → ((y : X) → Contains xs y → p y ≡ false)
    → list_any p xs ≡ false
none_pass p [] f = refl
none_pass p (x ∷ xs) f = rw (f x (member_here x xs)) (none_pass p xs (λ y m. f y (member_after x y xs m)))

pub fails_each : {X : Type 0} (p : X → Bool) (xs : List X) (y : X) → list_any p xs ≡ false → Contains xs y → p y ≡ false
fails_each p xs y none m =
    elim (cases_Bool (p y)) [ inl e ↦ (let some = some_pass p xs y m e in cc) | inr e ↦ e ]

-- two members that pass are the same
abbrev pub IsSingle : {X : Type 0} → (X → Bool) → List X → Type 0
IsSingle {X} p xs = (x y : X) → Contains xs x → Contains xs y → p x ≡ true → p y ≡ true → x ≡ y

pub find_none : {X : Type 0} (p : X → Bool) (xs : List X) → list_any p xs ≡ false → find p xs ≡ None
find_none p [] e = refl
find_none p (x ∷ xs) e = let parts = or_parts (p x) (list_any p xs) e in rw parts.0 (find_none p xs parts.1)

pub found_member : {X : Type 0} (p : X → Bool) (xs : List X) (y : X) → find p xs ≡ Some y → Contains xs y × (p y ≡ true)
found_member p [] y e = cc
found_member p (x ∷ xs) y e =
    elim (cases_Bool (p x)) [
      | inl t ↦ (let here : Some x ≡ Some y = sym (rw t refl) ∙ e in let same : x ≡ y = cc in
          (subst (λ v. Contains (x ∷ xs) v) same (member_here x xs), subst (λ v. p v ≡ true) same t))
      | inr f ↦ (let rest = found_member p xs y (sym (rw f refl) ∙ e) in (member_after x y xs rest.0, rest.1))
    ]

-- a search finds a member that passes, where there is one
find_some : {X : Type 0} (p : X → Bool) (xs : List X) (y : X) → Contains xs y → p y ≡ true
    → (x : X) × (find p xs ≡ Some x)
find_some p [] y m e = absurd (no_member y m)
find_some p (x ∷ xs) y m e =
    elim (cases_Bool (p x)) [
      | inl t ↦ (x, rw t refl)
      | inr f ↦ (let rest = find_some p xs y (later f) e in (rest.0, rw f rest.1))
    ] where
      later : p x ≡ false → Contains xs y
      later f = elim (member_cases x y xs m) [ inl same ↦ (let t = ap p same ∙ e in cc) | inr m ↦ m ]

-- the only one that passes is the one that is found
pub find_single : {X : Type 0} (p : X → Bool) (xs : List X) (y : X) → IsSingle p xs → Contains xs y → p y ≡ true
    → find p xs ≡ Some y
find_single p xs y single m e =
    let found = find_some p xs y m e in
    let there = found_member p xs found.0 found.1 in
    found.1 ∙ ap Some (single found.0 y there.0 m there.1 e)

-- the keys fall along the list
abbrev pub IsFalling : {X : Type 0} → (X → ℕ) → List X → Type 0
IsFalling key [] = Unit {0}
IsFalling key (x ∷ xs) = AllByRecursion (λ y. key y < key x) xs × IsFalling key xs

pub falling_single : {X : Type 0} (key : X → ℕ) (xs : List X) (x y : X) → IsFalling key xs → Contains xs x
    → Contains xs y → key x ≡ key y → x ≡ y
falling_single key [] x y f m k e = absurd (no_member x m)
falling_single key (z ∷ xs) x y f m k e =
    elim (member_cases z x xs m) [
      | inl zx ↦ (elim (member_cases z y xs k) [
        | inl zy ↦ sym zx ∙ zy
        | inr k ↦ absurd (let l = all_of (λ v. key v < key z) xs y f.0 k in let same = ap key zx in
            omega (arith, l, same, e))
      ])
      | inr m ↦ (elim (member_cases z y xs k) [
        | inl zy ↦ absurd (let l = all_of (λ v. key v < key z) xs x f.0 m in let same = ap key zy in
            omega (arith, l, same, e))
        | inr k ↦ falling_single key xs x y f.1 m k e
      ])
    ]

pub falling_map : {X Y : Type 0} (key : Y → ℕ) (f : X → Y) (xs : List X) → IsFalling (λ x. key (f x)) xs
    → IsFalling key (map f xs)
falling_map key f [] fall = tt
falling_map {X} key f (x ∷ xs) fall = (below xs fall.0, falling_map key f xs fall.1) where
  below : (ys : List X) → AllByRecursion (λ y. key (f y) < key (f x)) ys
      → AllByRecursion (λ y. key y < key (f x)) (map f ys)
  below [] all = tt
  below (y ∷ ys) all = (all.0, below ys all.1)

-- what is shown of the first
abbrev pub IsFirstAs : {X Y : Type 0} → (X → Y → Type 0) → List X → Option Y → Type 0
IsFirstAs Shows rows None = first_of rows ≡ None
IsFirstAs {X} Shows rows (Some y) = (x : X) × (first_of rows ≡ Some x) × Shows x y

-- where keys fall, the greatest is the first
pub greatest_is_first : {X Y : Type 0} (Shows : X → Y → Type 0) (key : X → ℕ) (rows : List X) (answer : Option Y)
    → IsFalling key rows → IsGreatestAs Shows key rows answer → IsFirstAs Shows rows answer
greatest_is_first Shows key [] None fall found = refl
greatest_is_first Shows key (x ∷ xs) None fall found = absurd (found x (member_here x xs))
greatest_is_first Shows key [] (Some y) fall (x, m, greatest, shows) = absurd (no_member x m)
greatest_is_first Shows key (first ∷ xs) (Some y) fall (x, m, greatest, shows) =
    elim (member_cases first x xs m) [
      | inl same ↦ (first, refl, subst (λ v. Shows v y) (sym same) shows)
      | inr m ↦ absurd (let l = all_of (λ v. key v < key first) xs x fall.0 m in
          let g = greatest first (member_here first xs) in omega (arith, l, g))
    ]

-- what is shown of the one that a search finds
abbrev pub IsSearchedAs : {X Y : Type 0} → (X → Y → Type 0) → (X → Bool) → List X → Option Y → Type 0
IsSearchedAs Shows test rows None = find test rows ≡ None
IsSearchedAs {X} Shows test rows (Some y) = (x : X) × (find test rows ≡ Some x) × Shows x y

pub found_is_searched : {X Y : Type 0} (Shows : X → Y → Type 0) (test : X → Bool) (rows : List X) (answer : Option Y)
    → IsSingle test rows → IsFoundAs Shows test rows answer → IsSearchedAs Shows test rows answer
found_is_searched Shows test rows None single found = find_none test rows (none_pass test rows found)
found_is_searched Shows test rows (Some y) single (x, m, passes, shows) =
    (x, find_single test rows x single m passes, shows)
