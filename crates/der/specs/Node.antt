-- Values under the Distinguished Encoding Rules, and their one encoding (X.690 8.1 and 10.1).
use Rattle.std.specs.Prelude.{◌≡◌, ℕ, suc, max, ◌+◌, ◌/◌, ◌%◌, ◌^◌, ◌<◌, ◌≤◌, ◌==◌, Bool, true, false, if◌then◌else◌}
use Rattle.std.specs.Prelude.{nat_lt, List, [], ◌∷◌, ◌++◌, length, Option, Some, None}
use Rattle.std.specs.{List.AllByRecursion, Int.Digits.digits_of}

mutual
  -- a value: an identifier octet, over contents octets or over further values
  pub data Node : Type 0 where
    primitive : (identifier : ℕ) (contents : List ℕ) → Node
    constructed : (identifier : ℕ) (components : Nodes) → Node

  -- values one after the other: a type of its own, since a type's own definition may not put it into a list
  pub data Nodes : Type 0 where
    no_nodes : Nodes
    node : Node → Nodes → Nodes

abbrev pub AreOctets : List ℕ → Type 0
AreOctets octets = AllByRecursion (λ octet. octet < 256) octets

-- The length octets of n contents octets, in the definite form and as few as may be (X.690 8.1.3, 10.1):
-- n itself below 0x80, else how many octets follow, with bit 8 set, and n in base 256.
unfoldable pub length_octets : ℕ → List ℕ
length_octets n = if nat_lt n 0x80 then n ∷ [] else (0x80 + length (digits_of 256 n)) ∷ digits_of 256 n

-- identifier octet, length octets, contents octets (X.690 8.1.1)
abbrev pub element : ℕ → List ℕ → List ℕ
element identifier contents = identifier ∷ (length_octets (length contents) ++ contents)

abbrev mutual
  pub encoding : Node → List ℕ
  encoding (primitive identifier contents) = element identifier contents
  encoding (constructed identifier components) = element identifier (encodings components)

  pub encodings : Nodes → List ℕ
  encodings no_nodes = []
  encodings (node first others) = encoding first ++ encodings others

-- a value's contents octets
abbrev pub contents_octets : Node → List ℕ
contents_octets (primitive identifier contents) = contents
contents_octets (constructed identifier components) = encodings components

abbrev pub identifier_of : Node → ℕ
identifier_of (primitive identifier contents) = identifier
identifier_of (constructed identifier components) = identifier

-- the contents octets of a value under that identifier octet that isn't made of further values
abbrev pub contents_of : ℕ → Node → Option (List ℕ)
contents_of wanted (primitive identifier contents) = if identifier == wanted then Some contents else None
contents_of wanted (constructed identifier components) = None

-- the values inside a value under that identifier octet
abbrev pub components_of : ℕ → Node → Option Nodes
components_of wanted (primitive identifier contents) = None
components_of wanted (constructed identifier components) = if identifier == wanted then Some components else None

-- the first of values, and those after it
abbrev pub first_of : Nodes → Option (Node × Nodes)
first_of no_nodes = None
first_of (node first others) = Some (first, others)

-- the first of values where it is under that identifier octet, and those that are left
abbrev pub take_under : ℕ → Nodes → Option Node × Nodes
take_under wanted no_nodes = (None, no_nodes)
take_under wanted (node first others) =
    if identifier_of first == wanted then (Some first, others) else (None, node first others)

abbrev pub is_end : Nodes → Bool
is_end no_nodes = true
is_end (node first others) = false

-- how many levels a value has: itself is one
abbrev mutual
  pub levels : Node → ℕ
  levels (primitive identifier contents) = 1
  levels (constructed identifier components) = suc (levels_of components)

  pub levels_of : Nodes → ℕ
  levels_of no_nodes = 0
  levels_of (node first others) = max (levels first) (levels_of others)

-- bit 6 of an identifier octet: 1 over further values, 0 over contents octets (X.690 8.1.2.5)
abbrev pub bit_six : ℕ → ℕ
bit_six identifier = identifier / 32 % 2

-- one octet whose tag number, in bits 5 to 1, is at most 30 (X.690 8.1.2.2)
abbrev pub IsLowTag : ℕ → Type 0
IsLowTag identifier = (identifier < 256) × (identifier % 32 < 31)

abbrev mutual
  -- each identifier octet fits what is under it, and each value's contents are octets, fewer than 2 ^ 24
  pub IsFormed : Node → Type 0
  IsFormed (primitive identifier contents) =
      IsLowTag identifier × (bit_six identifier ≡ 0) × AreOctets contents × (length contents < 2 ^ 24)
  IsFormed (constructed identifier components) =
      IsLowTag identifier × (bit_six identifier ≡ 1) × AreFormed components × (length (encodings components) < 2 ^ 24)

  pub AreFormed : Nodes → Type 0
  AreFormed no_nodes = Unit {0}
  AreFormed (node first others) = IsFormed first × AreFormed others

-- formed, and at most 32 levels
pub record IsLawful (n : Node) : Type 0 where
  pub formed : IsFormed n
  pub depth : levels n ≤ 32
