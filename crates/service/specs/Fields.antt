-- Field lines of a head, by their names in letters of any case (RFC 9110 5.1).
use Rattle.std.specs.Prelude.{ℕ, Bool, List, [], ◌∷◌, map, filter}
use Rattle.std.specs.{Char.to_ascii_lowercase, Str.bytes_eq}

-- the same letters in any case
abbrev pub same_letters : List ℕ → List ℕ → Bool
same_letters a b = bytes_eq (map to_ascii_lowercase a) (map to_ascii_lowercase b)

-- the values of the fields of a name, in their order
abbrev pub values : List ℕ → List (List ℕ × List ℕ) → List (List ℕ)
values name fields = map (λ f. f.1) (filter (λ f. same_letters f.0 name) fields)

-- how often a name stands, and its value where it stands once
pub data Stated : Type 0 where
  Never : Stated
  Once : List ℕ → Stated
  Twice : Stated

abbrev pub stated_in : List (List ℕ) → Stated
stated_in [] = Never
stated_in (value ∷ []) = Once value
stated_in (value ∷ next ∷ others) = Twice

abbrev pub stated : List ℕ → List (List ℕ × List ℕ) → Stated
stated name fields = stated_in (values name fields)
