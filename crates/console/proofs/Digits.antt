-- Hexadecimal digits in pairs, and the octets that `hex` reads and writes.
use Rattle.std.proofs.Common.{◌≡◌, ℕ, ◌+◌, ◌*◌, ◌/◌, ◌%◌, ◌<◌, List, [], ◌∷◌, length, map, Option, Some, None, Result}
use Rattle.std.proofs.Common.{Ok, Err, ◌⊎◌, inl, inr, refl, sym, ap, ◌∙◌, arith}
use Rattle.hex.specs.Hex.{decode_pairs, decode_of, encode_with, encode_lower, digit_or_error, pair_value, value_at}
use Rattle.hex.specs.declared.error.FromHexError.TheVariants.{OutOfMemory}
use Rattle.hex.specs.{Hex.◌>>=◌, declared.error.FromHexError.FromHexError}
use Rattle.console.specs.Hexadecimal.{digit_value, halves, lower_digit}
use Rattle.console.specs.{Fault.fault_of, declared.fault.InputFault.TheVariants.Memory}
use Rattle.hex.proofs.HexLemmas.{decode_of-even, decode_of-ok}

-- what an `Ok` after a first step shows
bind_ok : {A B : Type 0} (r : Result A FromHexError) (f : A → Result B FromHexError) (y : B)
    → (r >>= f) ≡ Ok y → (x : A) × (r ≡ Ok x) × (f x ≡ Ok y)
bind_ok (Ok x) f y h = (x, refl, h)
bind_ok (Err e) f y h = cc h

-- a digit that was read
digit_read : (c i : ℕ) (o : Option ℕ) (v : ℕ) → digit_or_error c i o ≡ Ok v → o ≡ Some v
digit_read c i (Some w) v h = cc
digit_read c i None v h = cc h

digit_value-small : (c v : ℕ) → digit_value c ≡ Some v → v < 16
digit_value-small c v h = grind (arith)

-- what is decoded has these digits
pub digits_decoded : (i : ℕ) (s octets : List ℕ) → decode_pairs i s ≡ Ok octets
    → map digit_value s ≡ map Some (halves octets)
unfolding decode_pairs
digits_decoded i [] octets h =
    let e : [] ≡ octets = cc in
    rw (← e) refl
digits_decoded i (a ∷ []) octets h = cc h
digits_decoded i (a ∷ b ∷ rest) octets h =
    let byte = bind_ok (pair_value a b i) _ octets h in
    let high = bind_ok (value_at a i) _ byte.0 byte.1 in
    let low = bind_ok (value_at b (i + 1)) _ byte.0 high.2 in
    let others = bind_ok (decode_pairs (i + 2) rest) _ octets byte.2 in
    let ih = digits_decoded (i + 2) rest others.0 others.1 in
    let e : byte.0 ∷ others.0 ≡ octets = let h = others.2 in cc in
    let ha : digit_value a ≡ Some high.0 = digit_read a i (digit_value a) high.0 high.1 in
    let hb : digit_value b ≡ Some low.0 = digit_read b (i + 1) (digit_value b) low.0 low.1 in
    let small = digit_value-small b low.0 hb in
    let sum : high.0 * 16 + low.0 ≡ byte.0 = let h = low.2 in cc in
    let top : byte.0 / 16 ≡ high.0 = omega arith in
    let rest_of : byte.0 % 16 ≡ low.0 = omega arith in
    rw (← e) (rw (top, rest_of) cc)

-- a pair of digits that are an octet's halves
pair_of_halves : (a b i octet : ℕ) → digit_value a ≡ Some (octet / 16) → digit_value b ≡ Some (octet % 16)
    → pair_value a b i ≡ Ok octet
pair_of_halves a b i octet ha hb =
    let high : value_at a i ≡ Ok (octet / 16) = ap (digit_or_error a i) ha in
    let low : value_at b (i + 1) ≡ Ok (octet % 16) = ap (digit_or_error b (i + 1)) hb in
    let whole : octet / 16 * 16 + octet % 16 ≡ octet = omega arith in
    let read : pair_value a b i ≡ Ok (octet / 16 * 16 + octet % 16) = rw (high, low) refl in
    read ∙ ap Ok whole

-- what has these digits is decoded
pub decoded_digits : (i : ℕ) (s octets : List ℕ) → map digit_value s ≡ map Some (halves octets)
    → decode_pairs i s ≡ Ok octets
unfolding decode_pairs
decoded_digits i [] [] h = refl
decoded_digits i [] (octet ∷ octets) h = cc h
decoded_digits i (a ∷ []) [] h = cc h
decoded_digits i (a ∷ []) (octet ∷ octets) h = cc h
decoded_digits i (a ∷ b ∷ rest) [] h = cc h
decoded_digits i (a ∷ b ∷ rest) (octet ∷ octets) h =
    let ha : digit_value a ≡ Some (octet / 16) = cc in
    let hb : digit_value b ≡ Some (octet % 16) = cc in
    let others : map digit_value rest ≡ map Some (halves octets) = cc in
    let pair = pair_of_halves a b i octet ha hb in
    let ih = decoded_digits (i + 2) rest octets others in
    rw (pair, ih) refl

length-digits : (s octets : List ℕ) → map digit_value s ≡ map Some (halves octets) → length s ≡ 2 * length octets
length-digits [] [] h = refl
length-digits [] (octet ∷ octets) h = cc h
length-digits (a ∷ []) [] h = cc h
length-digits (a ∷ []) (octet ∷ octets) h = cc h
length-digits (a ∷ b ∷ rest) [] h = cc h
length-digits (a ∷ b ∷ rest) (octet ∷ octets) h =
    let others : map digit_value rest ≡ map Some (halves octets) = cc in
    let ih = length-digits rest octets others in
    omega (arith, ih)

-- decoding is exact, both ways
pub digits_from_decode : (s octets : List ℕ) → decode_of s ≡ Ok octets → map digit_value s ≡ map Some (halves octets)
digits_from_decode s octets h =
    let even = (decode_of-ok s octets h).0 in
    digits_decoded 0 s octets (sym (decode_of-even s even) ∙ h)

pub decode_from_digits : (s octets : List ℕ) → map digit_value s ≡ map Some (halves octets) → decode_of s ≡ Ok octets
decode_from_digits s octets h =
    let len = length-digits s octets h in
    decode_of-even s (omega (arith, len)) ∙ decoded_digits 0 s octets h

-- what is encoded is each half in lower case
pub encode_lower-halves : (octets : List ℕ) → encode_lower octets ≡ map lower_digit (halves octets)
unfolding encode_with
encode_lower-halves [] = refl
encode_lower-halves (octet ∷ octets) = let ih = encode_lower-halves octets in cc

-- one text spells one list of octets
pub same_octets : (s octets others : List ℕ) → decode_of s ≡ Ok octets → map digit_value s ≡ map Some (halves others)
    → octets ≡ others
same_octets s octets others read h =
    let again = decode_from_digits s others h in
    cc

-- where the text spells octets, memory alone is refused
pub memory_alone : (e : FromHexError) (s octets : List ℕ) → (e ≡ OutOfMemory) ⊎ (decode_of s ≡ Err e)
    → map digit_value s ≡ map Some (halves octets) → fault_of e ≡ Memory
memory_alone e s octets (inl memory) h = rw memory refl
memory_alone e s octets (inr refused) h =
    let read = decode_from_digits s octets h in
    cc (sym read ∙ refused)
