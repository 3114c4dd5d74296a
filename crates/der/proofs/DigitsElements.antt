-- What holds of each element of a list, and reading a list of digits from its length and number.
use Rattle.std.proofs.Common.{◌≡◌, ℕ, suc, ◌+◌, ◌*◌, ◌<◌, List, [], ◌∷◌, ◌++◌, length, map, get_or, refl, arith}
use Rattle.std.{specs.List.AllByRecursion, proofs.lemmas.Nat.same_from_place}
use Rattle.std.specs.Int.Digits.{number_from_digits, number_from_digits_after, AllBelowBase}

pub all-append : {X : Type 0} (P : X → Type 0) (xs ys : List X) → AllByRecursion P xs → AllByRecursion P ys
    → AllByRecursion P (xs ++ ys)
all-append P [] ys h k = k
all-append P (x ∷ xs) ys h k = (h.0, all-append P xs ys h.1 k)

-- from each place
pub all-from_places : (b : ℕ) (xs : List ℕ) → ((i : ℕ) → i < length xs → get_or xs i 0 < b)
    → AllByRecursion (λ x. x < b) xs
all-from_places b [] h = tt
all-from_places b (x ∷ xs) h = (h 0 (omega arith), all-from_places b xs (λ i below. h (suc i) (omega arith)))

pub all-map : {X Y : Type 0} (P : X → Type 0) (Q : Y → Type 0) (f : X → Y) (xs : List X) → ((x : X) → P x → Q (f x))
    → AllByRecursion P xs → AllByRecursion Q (map f xs)
all-map P Q f [] each h = tt
all-map P Q f (x ∷ xs) each h = (each x h.0, all-map P Q f xs each h.1)

-- as many digits that write one number are the same digits
pub same_from_number_after : (b m n : ℕ) (xs ys : List ℕ) → AllBelowBase b xs → AllBelowBase b ys
    → length xs ≡ length ys → number_from_digits_after b m xs ≡ number_from_digits_after b n ys → (m ≡ n) × (xs ≡ ys)
same_from_number_after b m n [] [] p q e same = (same, refl)
same_from_number_after b m n [] (y ∷ ys) p q e same = absurd (omega arith)
same_from_number_after b m n (x ∷ xs) [] p q e same = absurd (omega arith)
same_from_number_after b m n (x ∷ xs) (y ∷ ys) p q e same =
    let rest = same_from_number_after b (m * b + x) (n * b + y) xs ys p.1 q.1 (omega arith) same in
    let place = same_from_place m x n y b p.0 q.0 rest.0 in
    let xy : x ≡ y = place.1 in
    let front : xs ≡ ys = rest.1 in
    (place.0, cc)

pub same_from_number : (b : ℕ) (xs ys : List ℕ) → AllBelowBase b xs → AllBelowBase b ys → length xs ≡ length ys
    → number_from_digits b xs ≡ number_from_digits b ys → xs ≡ ys
same_from_number b xs ys p q e same = (same_from_number_after b 0 0 xs ys p q e same).1
