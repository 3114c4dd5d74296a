-- Object identifiers: contents octets (X.690 8.19), and dotted text (RFC 3061 section 2's form of numbers joined by
-- dots).
use Rattle.std.specs.Prelude.{◌≡◌, ◌⊎◌, ℕ, ◌+◌, ◌-◌, ◌*◌, ◌^◌, ◌<◌, ◌≤◌, Bool, ◌&&◌, ◌==◌, if◌then◌else◌, nat_lt}
use Rattle.std.specs.Prelude.{nat_le, List, [], ◌∷◌, ◌++◌, length, map, Option, Some, None}
use Rattle.std.specs.{List.AllByRecursion, List.flat_map, List.list_all, Str.bytes_eq, Int.Digits.digits_of}

-- An object identifier is its subidentifiers, of which the first is 40 * X + Y for the arcs X and Y (X.690 8.19.4).
-- Own limits: at most 32 of them, each below 2 ^ 128.
pub record IsOid (subidentifiers : List ℕ) : Type 0 where
  pub some : 1 ≤ length subidentifiers
  pub few : length subidentifiers ≤ 32
  pub small : AllByRecursion (λ subidentifier. subidentifier < 2 ^ 128) subidentifiers

-- bit 8 set on all octets but the last
abbrev pub with_continuation : List ℕ → List ℕ
with_continuation [] = []
with_continuation (last ∷ []) = last ∷ []
with_continuation (first ∷ second ∷ others) = (0x80 + first) ∷ with_continuation (second ∷ others)

-- a subidentifier in base 128 in the fewest octets, most significant first (X.690 8.19.2)
unfoldable pub subidentifier_octets : ℕ → List ℕ
subidentifier_octets n = if nat_lt n 128 then n ∷ [] else with_continuation (digits_of 128 n)

-- the contents octets of an object identifier
abbrev pub oid_content : List ℕ → List ℕ
oid_content subidentifiers = flat_map subidentifier_octets subidentifiers

-- The subidentifiers that octets are, with n read of the first: seven bits of each octet, and an octet below 0x80 is a
-- subidentifier's last (X.690 8.19.2).
abbrev pub subidentifiers_after : ℕ → List ℕ → List ℕ
subidentifiers_after n [] = []
subidentifiers_after n (octet ∷ octets) =
    if nat_lt octet 0x80 then (n * 128 + octet) ∷ subidentifiers_after 0 octets
    else subidentifiers_after (n * 128 + (octet - 0x80)) octets

unfoldable pub subidentifiers_of : List ℕ → List ℕ
subidentifiers_of octets = subidentifiers_after 0 octets

-- some object identifier has these contents octets
pub record IsOidContent (octets : List ℕ) : Type 0 where
  pub subidentifiers : List ℕ
  pub oid : IsOid subidentifiers
  pub encoded : octets ≡ oid_content subidentifiers

-- ..the one of the subidentifiers that the octets are read as
pub record ReadsAsOid (octets : List ℕ) : Type 0 where
  pub oid : IsOid (subidentifiers_of octets)
  pub same : oid_content (subidentifiers_of octets) ≡ octets

-- whether numbers are an object identifier
abbrev pub is_oid : List ℕ → Bool
is_oid subidentifiers =
    nat_le 1 (length subidentifiers) && nat_le (length subidentifiers) 32
    && list_all (λ subidentifier. nat_lt subidentifier (2 ^ 128)) subidentifiers

-- the object identifier whose contents the octets are, where they are any's
unfoldable pub oid_of : List ℕ → Option (List ℕ)
oid_of octets =
    if is_oid (subidentifiers_of octets) && bytes_eq (oid_content (subidentifiers_of octets)) octets
    then Some (subidentifiers_of octets)
    else None

-- a number in decimal digits, without leading zeros
unfoldable pub decimal : ℕ → List ℕ
decimal n = if n == 0 then 0x30 ∷ [] else map (λ digit. 0x30 + digit) (digits_of 10 n)

-- the first arc of the first subidentifier: 0, 1, or 2, of which the first two have at most 40 arcs below them
abbrev pub first_arc : ℕ → ℕ
first_arc n = if nat_lt n 40 then 0 else (if nat_lt n 80 then 1 else 2)

-- `.` and the number
abbrev pub dotted : ℕ → List ℕ
dotted n = 0x2e ∷ decimal n

-- the arcs of subidentifiers, of which the first is 40 * X + Y for the arcs X and Y
abbrev pub arcs_of : List ℕ → List ℕ
arcs_of [] = []
arcs_of (first ∷ others) = first_arc first ∷ (first - 40 * first_arc first) ∷ others

-- numbers in decimal, joined by dots
abbrev pub joined_by_dots : List ℕ → List ℕ
joined_by_dots [] = []
joined_by_dots (first ∷ others) = decimal first ++ flat_map dotted others

-- the text of an object identifier: its arcs in decimal, joined by dots
abbrev pub oid_text : List ℕ → List ℕ
oid_text subidentifiers = joined_by_dots (arcs_of subidentifiers)

-- ---- reading a text from its front

-- subidentifiers that may stand after the first
pub record AreOthers (subidentifiers : List ℕ) : Type 0 where
  pub few : length subidentifiers ≤ 31
  pub small : AllByRecursion (λ subidentifier. subidentifier < 2 ^ 128) subidentifiers

abbrev pub BeginsWithoutDigit : List ℕ → Type 0
BeginsWithoutDigit [] = Unit {0}
BeginsWithoutDigit (character ∷ others) = (character < 0x30) ⊎ (0x39 < character)

-- a decimal number below 2 ^ 128, all its digits, and the characters after it
pub record IsNumberAt (text : List ℕ) (number : ℕ) (rest : List ℕ) : Type 0 where
  pub spelled : text ≡ decimal number ++ rest
  pub small : number < 2 ^ 128
  pub ends : BeginsWithoutDigit rest

-- the same, with a `.` in front
pub record IsDottedNumberAt (text : List ℕ) (number : ℕ) (rest : List ℕ) : Type 0 where
  pub spelled : text ≡ dotted number ++ rest
  pub small : number < 2 ^ 128
  pub ends : BeginsWithoutDigit rest
