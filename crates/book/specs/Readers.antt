-- Who is given the right to read a deposit, and who asks to see one.
use Rattle.std.specs.{Prelude.ℕ, Prelude.Bool, Prelude.false, Prelude.List, Prelude.◌∷◌, Prelude.map, Str.bytes_eq}

-- whom a right names: an account, or a group of accounts, by its name
pub data Reader : Type 0 where
  Account : List ℕ → Reader
  Group : List ℕ → Reader

abbrev pub is_same : Reader → Reader → Bool
is_same (Account name) (Account other) = bytes_eq name other
is_same (Group name) (Group other) = bytes_eq name other
is_same _ _ = false

-- who asks: an account by its name, and the names of the groups that it is in
pub record Viewer : Type 0 where
  pub name : List ℕ
  pub groups : List (List ℕ)

-- as whom it reads
abbrev pub readers_as : Viewer → List Reader
readers_as viewer = Account viewer.name ∷ map Group viewer.groups
