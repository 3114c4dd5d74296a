-- Values where they lie in octets.
use Rattle.std.specs.Prelude.{◌≡◌, ℕ, ◌≤◌, Bool, ◌&&◌, nat_lt, List, [], Result, Ok, Err, is_ok}
use Rattle.std.specs.List.{list_all}
use Rattle.der.specs.{FirstFault.values_at, FirstFault.tree_of, declared.fault.DerFault.DerFault}
use Rattle.der.specs.Node.{Node, primitive, Nodes, no_nodes, encodings, levels_of, AreFormed}

-- The octets are the encodings of formed values, one after the other, of at most that many levels.
pub record AreEncodings (most : ℕ) (octets : List ℕ) : Type 0 where
  pub values : Nodes
  pub formed : AreFormed values
  pub depth : levels_of values ≤ most
  pub encoded : octets ≡ encodings values

-- what was read, or the other value where reading was refused
abbrev pub read_or : {A : Type 0} → A → Result A DerFault → A
read_or other (Ok x) = x
read_or other (Err fault) = other

-- The value that octets are read as. Where octets are the encoding of a lawful value it is that one.
unfoldable pub value_in : List ℕ → Node
value_in octets = read_or (primitive 0 []) (tree_of octets)

-- The values that octets are read as. Where octets are the encodings of lawful values they are those.
unfoldable pub values_in : List ℕ → Nodes
values_in octets = read_or no_nodes (values_at 32 octets)

-- whether octets are the encoding of a lawful value
unfoldable pub is_value : List ℕ → Bool
is_value octets = list_all (λ octet. nat_lt octet 256) octets && is_ok (tree_of octets)

-- whether octets are the encodings of lawful values, one after the other
unfoldable pub are_values : List ℕ → Bool
are_values octets = list_all (λ octet. nat_lt octet 256) octets && is_ok (values_at 32 octets)
