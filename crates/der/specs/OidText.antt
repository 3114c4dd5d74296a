-- The object identifier that a dotted text gives.
use Rattle.std.specs.Prelude.{ℕ, ◌+◌, ◌-◌, ◌*◌, ◌==◌, ◌&&◌, if◌then◌else◌, List, [], ◌∷◌, Option, Some, None}
use Rattle.std.specs.Str.{bytes_eq}
use Rattle.der.specs.ObjectIdentifier.{is_oid, oid_text}

-- the numbers between the dots, with n read of the first
abbrev pub arcs_after : ℕ → List ℕ → List ℕ
arcs_after n [] = n ∷ []
arcs_after n (character ∷ characters) =
    if character == 0x2e then n ∷ arcs_after 0 characters
    else arcs_after (n * 10 + (character - 0x30)) characters

-- the first subidentifier joins the first two arcs (X.690 8.19.4)
abbrev pub joined : List ℕ → List ℕ
joined [] = []
joined (first ∷ []) = []
joined (first ∷ second ∷ others) = (40 * first + second) ∷ others

-- the object identifier whose text this is, where it is any's
unfoldable pub oid_of_text : List ℕ → Option (List ℕ)
oid_of_text text =
    if is_oid (joined (arcs_after 0 text)) && bytes_eq (oid_text (joined (arcs_after 0 text))) text
    then Some (joined (arcs_after 0 text))
    else None
