-- The values of which the messages are made (X.690 8.2, 8.3, 8.7, 8.9, 8.19, 11.1, 11.5).
use Rattle.std.specs.Prelude.{ℕ, Bool, ◌||◌, if◌then◌else◌, ℤ, List, [], ◌∷◌, Option, Some, None}
use Rattle.der.specs.Node.{Node, primitive, constructed}
use Rattle.der.specs.{Tree.nodes, Number.number_content, ObjectIdentifier.oid_content}

abbrev pub integer : ℤ → Node
integer z = primitive 0x02 (number_content z)

-- FF is TRUE and 00 FALSE
abbrev pub boolean : Bool → Node
boolean b = primitive 0x01 ((if b then 0xff else 0x00) ∷ [])

abbrev pub octet_string : List ℕ → Node
octet_string octets = primitive 0x04 octets

abbrev pub object_identifier : List ℕ → Node
object_identifier subidentifiers = primitive 0x06 (oid_content subidentifiers)

abbrev pub sequence : List Node → Node
sequence components = constructed 0x30 (nodes components)

-- a component where there is one
abbrev pub optional : {A : Type 0} → (A → Node) → Option A → List Node
optional component None = []
optional component (Some x) = component x ∷ []

-- a BOOLEAN DEFAULT FALSE: TRUE is written, and FALSE only where it is stated
abbrev pub false_by_default : Bool → Bool → List Node
false_by_default stated b = if b || stated then boolean b ∷ [] else []
