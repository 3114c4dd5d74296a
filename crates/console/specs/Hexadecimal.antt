-- Hexadecimal text: what it spells, and how it is written.
use Rattle.std.specs.Prelude.{◌≡◌, ℕ, ◌-◌, ◌/◌, ◌%◌, ◌==◌, ◌&&◌, ◌||◌, not, Bool, nat_le, if◌then◌else◌, Option, Some}
use Rattle.std.specs.Prelude.{None, List, [], ◌∷◌, ◌++◌, map, filter, codes, slice_index}

-- tab, line feed, carriage return and space
abbrev pub is_blank : ℕ → Bool
is_blank octet = octet == 0x09 || (octet == 0x0a || (octet == 0x0d || octet == 0x20))

-- the value of a digit, `A` to `F`, `a` to `f` or `0` to `9`
abbrev pub digit_value : ℕ → Option ℕ
digit_value octet =
    if nat_le 0x41 octet && nat_le octet 0x46 then Some (octet - 0x37)
    else if nat_le 0x61 octet && nat_le octet 0x66 then Some (octet - 0x57)
    else if nat_le 0x30 octet && nat_le octet 0x39 then Some (octet - 0x30)
    else None

-- the high four bits of each octet, and the low four
abbrev pub halves : List ℕ → List ℕ
halves [] = []
halves (octet ∷ others) = octet / 16 ∷ octet % 16 ∷ halves others

abbrev pub without_blanks : List ℕ → List ℕ
without_blanks text = filter (λ octet. not (is_blank octet)) text

-- Wherever blanks stand in it, the text has two digits for each octet.
abbrev pub IsHexadecimal : List ℕ → List ℕ → Type 0
IsHexadecimal text octets = map digit_value (without_blanks text) ≡ map Some (halves octets)

-- a digit in lower case
abbrev pub lower_digit : ℕ → ℕ
lower_digit value = slice_index (codes "0123456789abcdef") value

-- one line of digits in lower case
abbrev pub line : List ℕ → List ℕ
line octets = map lower_digit (halves octets) ++ 0x0a ∷ []
