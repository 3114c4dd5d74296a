-- The contents octets of an INTEGER (X.690 8.3).
use Rattle.std.specs.Prelude.{◌≡◌, ℕ, ◌-◌, ◌<◌, ◌≤◌, ℤ, pos, negsuc, Bool, true, false, ◌==◌, if◌then◌else◌, nat_lt}
use Rattle.std.specs.Prelude.{nat_le, List, [], ◌∷◌, length, map}
use Rattle.std.specs.Int.Digits.{digits_of, number_from_digits}
use Rattle.der.specs.Node.{AreOctets}

-- each bit the other way round
abbrev pub complement : List ℕ → List ℕ
complement octets = map (λ octet. 0xff - octet) octets

-- The two's complement value of octets, most significant first (X.690 8.3.3): with a first octet below 0x80 their
-- number in base 256; else -1 less the number of their complement.
abbrev pub twos_value : List ℕ → ℤ
twos_value [] = pos 0
twos_value (first ∷ others) =
    if nat_lt first 0x80 then pos (number_from_digits 256 (first ∷ others))
    else negsuc (number_from_digits 256 (complement (first ∷ others)))

-- The contents of a number: the shortest list of at least one octet whose two's complement value it is.
pub record IsNumberContent (z : ℤ) (octets : List ℕ) : Type 0 where
  pub bytes : AreOctets octets
  pub some : 0 < length octets
  pub value : twos_value octets ≡ z
  pub fewest : (others : List ℕ) → AreOctets others → 0 < length others → twos_value others ≡ z
      → length octets ≤ length others

-- digits in base 256, with a 0 in front where there are none, or where the first one's bit 8 would be the sign
abbrev pub with_sign : List ℕ → List ℕ
with_sign [] = 0 ∷ []
with_sign (first ∷ others) = if nat_lt first 0x80 then first ∷ others else 0 ∷ first ∷ others

-- those contents, computed: -1 - n has the complement of the contents of n
unfoldable pub number_content : ℤ → List ℕ
number_content (pos n) = with_sign (digits_of 256 n)
number_content (negsuc n) = complement (with_sign (digits_of 256 n))

-- At least one octet, and where there are more, the first nine bits are not all equal (X.690 8.3.2).
abbrev pub is_shortest : List ℕ → Bool
is_shortest [] = false
is_shortest (octet ∷ []) = true
is_shortest (first ∷ second ∷ others) =
    if first == 0 then nat_le 0x80 second else (if first == 0xff then nat_lt second 0x80 else true)
