-- Numbers and references as a request spells them.
use Rattle.std.specs.Prelude.{ℕ, ◌==◌, nat_le, ℤ, pos, neg_ℤ, Bool, ◌&&◌, ◌||◌, not, List, [], ◌∷◌, length}
use Rattle.std.specs.Prelude.{codes, slice_index, Option, Some, None, option_map, if◌then◌else◌}
use Rattle.std.specs.Char.{is_ascii_alphanumeric, is_ascii_digit}
use Rattle.std.specs.{List.list_all, List.list_any, Str.Parse.digits_value}
use Rattle.book.specs.Sound.{greatest_number}

-- at least one decimal digit, at most so many, and nothing else
unfoldable pub is_digits : ℕ → List ℕ → Bool
is_digits most octets = (nat_le 1 (length octets) && nat_le (length octets) most) && list_all is_ascii_digit octets

-- the number of a body's octets: 1 to 18 digits
abbrev pub length_in : List ℕ → Option ℕ
length_in octets = if is_digits 18 octets then Some (digits_value 10 octets) else None

-- a serial number, as a deposit's number is one: 1 to 2^63 - 1, without a leading zero, so of at most 19 digits
abbrev pub number_in : List ℕ → Option ℕ
number_in octets =
    if is_digits 19 octets && not (slice_index octets 0 == 0x30) && nat_le (digits_value 10 octets) greatest_number
    then Some (digits_value 10 octets)
    else None

-- a number of microseconds, 0 to 2^63 - 1, of at most 19 digits
abbrev pub micros_in : List ℕ → Option ℕ
micros_in octets =
    if is_digits 19 octets && nat_le (digits_value 10 octets) greatest_number
    then Some (digits_value 10 octets)
    else None

-- such a number, or minus one behind a hyphen
abbrev pub signed_in : List ℕ → Option ℤ
signed_in [] = None
signed_in (first ∷ rest) =
    if first == 0x2D then option_map (λ n. neg_ℤ (pos n)) (micros_in rest)
    else option_map pos (micros_in (first ∷ rest))

-- a letter or a digit of ASCII, or one of . _ -
abbrev pub is_reference_octet : ℕ → Bool
is_reference_octet octet = is_ascii_alphanumeric octet || list_any (λ c. c == octet) (codes "._-")

-- a deposit's reference: 1 to 64 of these
unfoldable pub is_reference : List ℕ → Bool
is_reference octets = (nat_le 1 (length octets) && nat_le (length octets) 64) && list_all is_reference_octet octets
