-- Reading values from the front of octets: the answer, or the first fault: a value's own before those of the values
-- inside it, and of these the leftmost.
use Rattle.std.specs.Prelude.{◌≡◌, ℕ, zero, suc, ◌+◌, ◌-◌, ◌%◌, ◌^◌, ◌==◌, ◌||◌, Bool, if◌then◌else◌, nat_lt, List, []}
use Rattle.std.specs.Prelude.{◌∷◌, length, take, drop, Result, Ok, Err}
use Rattle.std.specs.{Int.Digits.number_from_digits, Str.bytes_eq}
use Rattle.der.specs.Node.{Node, primitive, constructed, Nodes, no_nodes, node, length_octets, bit_six}
use Rattle.der.specs.declared.fault.DerFault.{DerFault, TheVariants.Trailing, TheVariants.BadValue, TheVariants.Memory}
use Rattle.der.specs.declared.fault.DerFault.TheVariants.{Truncated, LengthForm, HighTag, WrongKind, TooDeep, TooLong}

infixl 10 ◌>>=◌
abbrev pub ◌>>=◌ : {A B : Type 0} → Result A DerFault → (A → Result B DerFault) → Result B DerFault
(Ok x) >>= f = f x
(Err e) >>= f = Err e

-- A fault that a function answered is the one that reading gives, unless memory ran out.
abbrev pub IsFaultOf : {Y : Type 0} → DerFault → Result Y DerFault → Type 0
IsFaultOf Memory read = Unit {0}
IsFaultOf Truncated read = read ≡ Err Truncated
IsFaultOf LengthForm read = read ≡ Err LengthForm
IsFaultOf HighTag read = read ≡ Err HighTag
IsFaultOf WrongKind read = read ≡ Err WrongKind
IsFaultOf TooDeep read = read ≡ Err TooDeep
IsFaultOf TooLong read = read ≡ Err TooLong
IsFaultOf Trailing read = read ≡ Err Trailing
IsFaultOf BadValue read = read ≡ Err BadValue

-- What a function returned, seen by a view, is what reading gives, unless memory ran out.
abbrev pub Gives : {X Y : Type 0} → (X → Y) → Result X DerFault → Result Y DerFault → Type 0
Gives view (Ok x) read = read ≡ Ok (view x)
Gives view (Err e) read = IsFaultOf e read

-- What a function returned, seen by a view, is what reading gives.
abbrev pub Reads : {X Y : Type 0} → (X → Y) → Result X DerFault → Result Y DerFault → Type 0
Reads view (Ok x) read = read ≡ Ok (view x)
Reads view (Err e) read = read ≡ Err e

-- whether octets after a first one that counts them are the length octets of a number
unfoldable pub is_length_of : ℕ → List ℕ → Bool
is_length_of n octets = bytes_eq ((0x80 + length octets) ∷ octets) (length_octets n)

-- The number that length octets after the first give, where they are the length octets of that number, and the octets
-- after them (X.690 8.1.3.5, 10.1).
unfoldable pub long_length : List ℕ → List ℕ → Result (ℕ × List ℕ) DerFault
long_length octets rest =
    let n = number_from_digits 256 octets in
    if is_length_of n octets then (if nat_lt n (2 ^ 24) then Ok (n, rest) else Err TooLong) else Err LengthForm

-- the number that the length octets at the front give, and the octets after them (X.690 8.1.3.4, 8.1.3.5)
unfoldable pub length_at : List ℕ → Result (ℕ × List ℕ) DerFault
length_at [] = Err Truncated
length_at (first ∷ rest) =
    if nat_lt first 0x80 then Ok (first, rest)
    else (if (first == 0x80) || (first == 0xff) then Err LengthForm
    else (if nat_lt (length rest) (first - 0x80) then Err Truncated
    else long_length (take (first - 0x80) rest) (drop (first - 0x80) rest)))

-- a value's identifier octet and contents octets, and the octets after it
pub record Piece : Type 0 where
  pub identifier : ℕ
  pub contents : List ℕ
  pub rest : List ℕ

-- the identifier octet, and the octets after it
unfoldable pub identifier_at : List ℕ → Result (ℕ × List ℕ) DerFault
identifier_at [] = Err Truncated
identifier_at (identifier ∷ rest) = if identifier % 32 == 31 then Err HighTag else Ok (identifier, rest)

unfoldable pub contents_at : ℕ → ℕ → List ℕ → Result Piece DerFault
contents_at identifier count rest =
    if nat_lt (length rest) count then Err Truncated
    else Ok (record { identifier = identifier; contents = take count rest; rest = drop count rest })

unfoldable pub element_at : List ℕ → Result Piece DerFault
element_at octets = do
  identifier ← identifier_at octets
  count ← length_at identifier.1
  contents_at identifier.0 count.0 count.1

-- values one after the other until the octets end, at most k of them, where `one` reads the value at the front
unfoldable pub nodes_with : (List ℕ → Result (Node × List ℕ) DerFault) → ℕ → List ℕ → Result Nodes DerFault
nodes_with one k [] = Ok no_nodes
nodes_with one zero (octet ∷ octets) = Err Trailing
nodes_with one (suc k) (octet ∷ octets) = do
  first ← one (octet ∷ octets)
  others ← nodes_with one k first.1
  Ok (node first.0 others)

-- the value that a piece is, where `one` reads the value at the front of a constructed one's contents
unfoldable pub node_of : (List ℕ → Result (Node × List ℕ) DerFault) → Piece → Result (Node × List ℕ) DerFault
node_of one piece =
    if bit_six piece.identifier == 1
    then (nodes_with one (length piece.contents) piece.contents
    >>= λ components. Ok (constructed piece.identifier components, piece.rest))
    else Ok (primitive piece.identifier piece.contents, piece.rest)

-- the value at the front, of at most that many levels, and the octets after it
unfoldable pub node_at : ℕ → List ℕ → Result (Node × List ℕ) DerFault
node_at zero octets = Err TooDeep
node_at (suc levels) octets = element_at octets >>= node_of (node_at levels)

-- the value that the octets are, and no octet after it
unfoldable pub tree_of : List ℕ → Result Node DerFault
tree_of octets = do
  found ← node_at 32 octets
  if length found.1 == 0 then Ok found.0 else Err Trailing

-- the value at the front as far as its own octets go, where it is under that identifier octet
unfoldable pub expected_at : ℕ → List ℕ → Result Piece DerFault
expected_at wanted octets = do
  piece ← element_at octets
  if piece.identifier == wanted then Ok piece else Err WrongKind

-- the values that octets are, one after the other, of at most that many levels
unfoldable pub values_at : ℕ → List ℕ → Result Nodes DerFault
values_at levels octets = nodes_with (node_at levels) (length octets) octets
