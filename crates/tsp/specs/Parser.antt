-- Reading messages from values: the answer, or none where the value isn't of the grammar.
use Rattle.std.specs.Prelude.{ℕ, ◌==◌, ◌||◌, Bool, true, false, if◌then◌else◌, ℤ, List, [], ◌∷◌, Option, Some, None}
use Rattle.std.specs.Prelude.{option_and_then, unwrap_or}
use Rattle.der.specs.Node.{Node, Nodes, no_nodes, node, contents_of, components_of, first_of, take_under}
use Rattle.der.specs.{Number.is_shortest, Number.twos_value, ObjectIdentifier.oid_of}
use Rattle.tsp.specs.Request.{ImprintValue, ExtensionValue, RequestValue}

infixl 10 ◌>>=◌
abbrev pub ◌>>=◌ : {A B : Type 0} → Option A → (A → Option B) → Option B
o >>= f = option_and_then f o

unfoldable pub integer_value_of : List ℕ → Option ℤ
integer_value_of octets = if is_shortest octets then Some (twos_value octets) else None

unfoldable pub integer_of : Node → Option ℤ
integer_of n = contents_of 0x02 n >>= integer_value_of

-- 00 is FALSE and FF is TRUE
unfoldable pub truth_of : List ℕ → Option Bool
truth_of [] = None
truth_of (octet ∷ []) = if octet == 0x00 then Some false else (if octet == 0xff then Some true else None)
truth_of (octet ∷ second ∷ others) = None

unfoldable pub boolean_of : Node → Option Bool
boolean_of n = contents_of 0x01 n >>= truth_of

unfoldable pub oid_in : Node → Option (List ℕ)
oid_in n = contents_of 0x06 n >>= oid_of

-- nothing is left
unfoldable pub end_of : Nodes → Option (Unit {0})
end_of no_nodes = Some tt
end_of (node first others) = None

-- the value where nothing is left
unfoldable pub only : {A : Type 0} → Nodes → A → Option A
only ns x = end_of ns >>= λ ended. Some x

-- an optional component, and what is left
abbrev pub optional_of : {A : Type 0} → (Node → Option A) → Option Node → Nodes → Option (Option A × Nodes)
optional_of read None ns = Some (None, ns)
optional_of read (Some n) ns = read n >>= λ x. Some (Some x, ns)

unfoldable pub optional_at : {A : Type 0} → ℕ → (Node → Option A) → Nodes → Option (Option A × Nodes)
optional_at tag read ns = optional_of read (take_under tag ns).0 (take_under tag ns).1

-- the BOOLEAN of a component DEFAULT FALSE, whose FALSE is stated only where it may be
unfoldable pub stated_of : Bool → Node → Option Bool
stated_of may n = boolean_of n >>= λ b. if b || may then Some b else None

-- a BOOLEAN DEFAULT FALSE, and what is left
unfoldable pub flag_at : Bool → Nodes → Option (Bool × Nodes)
flag_at may ns = optional_at 0x01 (stated_of may) ns >>= λ found. Some (unwrap_or found.0 false, found.1)

-- parameters: nothing, or one value
unfoldable pub parameters_of : Nodes → Option (Option Node)
parameters_of no_nodes = Some None
parameters_of (node first no_nodes) = Some (Some first)
parameters_of (node first (node second others)) = None

-- an AlgorithmIdentifier
unfoldable pub algorithm_of : Node → Option (List ℕ × Option Node)
algorithm_of n = do
  members ← components_of 0x30 n
  first ← first_of members
  identifier ← oid_in first.0
  parameters ← parameters_of first.1
  Some (identifier, parameters)

-- a MessageImprint
unfoldable pub imprint_of : Node → Option ImprintValue
imprint_of n = do
  members ← components_of 0x30 n
  first ← first_of members
  algorithm ← algorithm_of first.0
  second ← first_of first.1
  hash ← contents_of 0x04 second.0
  only second.1 (record { algorithm = algorithm.0; parameters = algorithm.1; hash = hash })

-- an Extension, whose FALSE may be stated or not
unfoldable pub extension_of : Bool → Node → Option ExtensionValue
extension_of may n = do
  members ← components_of 0x30 n
  first ← first_of members
  identifier ← oid_in first.0
  critical ← flag_at may first.1
  last ← first_of critical.1
  value ← contents_of 0x04 last.0
  only last.1 (record { identifier = identifier; critical = critical.0; value = value })

unfoldable pub extensions_of : Bool → Nodes → Option (List ExtensionValue)
extensions_of may no_nodes = Some []
extensions_of may (node first others) = do
  e ← extension_of may first
  es ← extensions_of may others
  Some (e ∷ es)

-- the list where it has an element, since Extensions have at least one (RFC 5280 4.1)
unfoldable pub some_extensions : List ExtensionValue → Option (List ExtensionValue)
some_extensions [] = None
some_extensions (e ∷ es) = Some (e ∷ es)

-- Extensions under a tag
unfoldable pub extension_list_of : Bool → ℕ → Node → Option (List ExtensionValue)
extension_list_of may tag n = do
  members ← components_of tag n
  extensions ← extensions_of may members
  some_extensions extensions

-- extensions under a tag, none where they are left away, and what is left
unfoldable pub extensions_at : Bool → ℕ → Nodes → Option (List ExtensionValue × Nodes)
extensions_at may tag ns =
    optional_at tag (extension_list_of may tag) ns >>= λ found. Some (unwrap_or found.0 [], found.1)

-- a TimeStampReq
unfoldable pub request_of : Node → Option RequestValue
request_of n = do
  members ← components_of 0x30 n
  first ← first_of members
  version ← integer_of first.0
  second ← first_of first.1
  imprint ← imprint_of second.0
  policy ← optional_at 0x06 oid_in second.1
  nonce ← optional_at 0x02 integer_of policy.1
  cert_req ← flag_at true nonce.1
  extensions ← extensions_at true 0xa0 cert_req.1
  only extensions.1 (record {
    version = version;
    imprint = imprint;
    policy = policy.0;
    nonce = nonce.0;
    cert_req = cert_req.0;
    extensions = extensions.0;
  })
