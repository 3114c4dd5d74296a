-- The values of which a token is made, each by its encoding (X.690 8.3, 8.7, 8.9, 8.11, 8.14, 8.19). A certificate, an
-- issuer and an algorithm stand in a token as they are, so what is put together here are encodings.
use Rattle.std.specs.Prelude.{ℕ, pos, List, [], ◌∷◌, ◌++◌}
use Rattle.der.specs.{Node.element, Number.number_content, ObjectIdentifier.oid_content}

-- encodings one after the other
abbrev pub joined : List (List ℕ) → List ℕ
joined [] = []
joined (first ∷ others) = first ++ joined others

abbrev pub integer : ℕ → List ℕ
integer n = element 0x02 (number_content (pos n))

abbrev pub octet_string : List ℕ → List ℕ
octet_string octets = element 0x04 octets

-- of its subidentifiers
abbrev pub object_identifier : List ℕ → List ℕ
object_identifier subidentifiers = element 0x06 (oid_content subidentifiers)

abbrev pub sequence : List (List ℕ) → List ℕ
sequence components = element 0x30 (joined components)

abbrev pub set : List (List ℕ) → List ℕ
set components = element 0x31 (joined components)

-- under the context-specific tag [0]: one value where it is explicit, a SET's where it is implicit
abbrev pub under_zero : List (List ℕ) → List ℕ
under_zero components = element 0xa0 (joined components)
