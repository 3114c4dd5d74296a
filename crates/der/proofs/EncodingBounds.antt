-- How long an encoding is, and that it is octets.
use Rattle.std.proofs.Common.{◌≡◌, ℕ, ◌+◌, ◌<◌, ◌≤◌, ◌^◌, Bool, true, false, List, [], ◌∷◌, length, nat_lt}
use Rattle.std.proofs.Common.{if◌then◌else◌, refl, sym, subst, arith}
use Rattle.std.specs.Int.Digits.{digits_of}
use Rattle.std.proofs.lemmas.{Int.Digits.all_below_base_digits_of, Bool.ltb-true, Bool.ltb-false, List.length-append}
use Rattle.der.specs.Node.{Node, primitive, constructed, Nodes, no_nodes, node, length_octets, element, encoding}
use Rattle.der.specs.Node.{encodings, contents_octets, IsFormed, AreFormed, AreOctets}
use Rattle.der.proofs.Lengths.{length_octets_short, length_octets_long, length_of_digits}
use Rattle.der.proofs.Octets.{AreOctets-append}

-- one to four octets
pub record IsLengthOctets (octets : List ℕ) : Type 0 where
  pub octets_hold : AreOctets octets
  pub some : 1 ≤ length octets
  pub few : length octets ≤ 4

by_size : (b : Bool) (n : ℕ) → nat_lt n 128 ≡ b → n < 2 ^ 24 → IsLengthOctets (length_octets n)
by_size true n short small =
    let below = ltb-true n 128 short in
    subst IsLengthOctets (sym (length_octets_short n below))
    (record { octets_hold = (omega arith, tt); some = omega arith; few = omega arith })
by_size false n long small =
    let low = ltb-false n 128 long in
    let count = length_of_digits n low small in
    subst IsLengthOctets (sym (length_octets_long n low)) (record {
      octets_hold = (omega (arith, count.1), all_below_base_digits_of 256 n (omega arith));
      some = omega arith;
      few = omega (arith, count.1);
    })

pub length_octets_hold : (n : ℕ) → n < 2 ^ 24 → IsLengthOctets (length_octets n)
length_octets_hold n small = by_size (nat_lt n 128) n refl small

some_by : (b : Bool) (n : ℕ) → 1 ≤ length (if b then n ∷ [] else (128 + length (digits_of 256 n)) ∷ digits_of 256 n)
some_by true n = omega arith
some_by false n = omega arith

some_length_octets : (n : ℕ) → 1 ≤ length (length_octets n)
unfolding length_octets
some_length_octets n = some_by (nat_lt n 128) n

AreOctets-element : (identifier : ℕ) (contents : List ℕ) → identifier < 256 → AreOctets contents
    → length contents < 2 ^ 24 → AreOctets (element identifier contents)
AreOctets-element identifier contents first others short = (
  first,
  AreOctets-append (length_octets (length contents)) contents
      (length_octets_hold (length contents) short).octets_hold others,
)

mutual
  pub AreOctets-encoding : (n : Node) → IsFormed n → AreOctets (encoding n)
  AreOctets-encoding (primitive identifier contents) formed =
      AreOctets-element identifier contents formed.0.0 formed.2 formed.3
  AreOctets-encoding (constructed identifier components) formed =
      AreOctets-element identifier (encodings components) formed.0.0 (AreOctets-encodings components formed.2) formed.3

  pub AreOctets-encodings : (ns : Nodes) → AreFormed ns → AreOctets (encodings ns)
  AreOctets-encodings no_nodes formed = tt
  AreOctets-encodings (node first others) formed =
      AreOctets-append (encoding first) (encodings others) (AreOctets-encoding first formed.0)
      (AreOctets-encodings others formed.1)

element_at_least : (identifier : ℕ) (contents : List ℕ) → 2 + length contents ≤ length (element identifier contents)
element_at_least identifier contents =
    omega (arith, length-append (length_octets (length contents)) contents, some_length_octets (length contents))

element_at_most : (identifier : ℕ) (contents : List ℕ) → length contents < 2 ^ 24
    → length (element identifier contents) ≤ length contents + 5
element_at_most identifier contents short =
    omega (
      arith,
      length-append (length_octets (length contents)) contents,
      (length_octets_hold (length contents) short).few,
    )

pub encoding_at_least : (n : Node) → 2 + length (contents_octets n) ≤ length (encoding n)
encoding_at_least (primitive identifier contents) = element_at_least identifier contents
encoding_at_least (constructed identifier components) = element_at_least identifier (encodings components)

pub encoding_at_most : (n : Node) → IsFormed n → length (encoding n) ≤ length (contents_octets n) + 5
encoding_at_most (primitive identifier contents) formed = element_at_most identifier contents formed.3
encoding_at_most (constructed identifier components) formed = element_at_most identifier (encodings components) formed.3
