-- The order of a SET OF under the distinguished encoding rules (X.690 11.6).
use Rattle.std.specs.Prelude.{◌≡◌, ℕ, Bool, false, if◌then◌else◌, List, [], ◌∷◌}
use Rattle.std.specs.{List.AllByRecursion, Cmp.Lexicographic.slice_cmp, Ordering.nat_cmp, Ordering.is_lt}

-- other octets come before these: of two, the one with the lesser octet where they first differ (X.690 11.6)
abbrev pub comes_before : List ℕ → List ℕ → Bool
comes_before octets other = is_lt (slice_cmp nat_cmp other octets)

-- octets put in front of the first that doesn't come before them
abbrev pub inserted : List ℕ → List (List ℕ) → List (List ℕ)
inserted octets [] = octets ∷ []
inserted octets (first ∷ others) =
    if comes_before octets first then first ∷ inserted octets others else octets ∷ first ∷ others

abbrev pub inserted_all : List (List ℕ) → List (List ℕ) → List (List ℕ)
inserted_all sorted [] = sorted
inserted_all sorted (first ∷ others) = inserted_all (inserted first sorted) others

-- in ascending order, as DER has the elements of a SET OF (X.690 11.6)
abbrev pub ascending : List (List ℕ) → List (List ℕ)
ascending certificates = inserted_all [] certificates

-- none comes before one in front of it
abbrev pub IsAscending : List (List ℕ) → Type 0
IsAscending [] = Unit {0}
IsAscending (first ∷ others) =
    AllByRecursion (λ other. comes_before first other ≡ false) others × IsAscending others
