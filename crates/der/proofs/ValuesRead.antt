-- Octets that are lawful values' encodings, and the values that they are read as.
use Rattle.std.proofs.Common.{◌≡◌, ℕ, zero, suc, ◌-◌, ◌<◌, ◌≤◌, Bool, true, false, ◌&&◌, ◌==◌, List, [], ◌∷◌, length}
use Rattle.std.proofs.Common.{Result, Ok, Err, MatchResult, ◌↔◌, nat_lt, is_ok, refl, sym, ap, subst, ◌∙◌, arith}
use Rattle.std.specs.List.{list_all}
use Rattle.std.proofs.lemmas.{Bool.ltb-true, Bool.lt-ltb, List.length-append}
use Rattle.der.specs.Node.{Node, primitive, constructed, Nodes, no_nodes, node, encoding, encodings, levels_of, bit_six}
use Rattle.der.specs.{Node.AreOctets, Node.AreFormed, Node.IsLawful, declared.fault.DerFault.DerFault}
use Rattle.der.specs.FirstFault.{◌>>=◌, Piece, element_at, node_at, nodes_with, values_at, tree_of}
use Rattle.der.specs.DataValue.{AreEncodings, read_or, value_in, values_in, is_value, are_values}
use Rattle.der.proofs.{Octets.AreOctets-parts, ReadingSteps.err_is_not}
use Rattle.der.proofs.EncodingBounds.{AreOctets-encoding, AreOctets-encodings}
use Rattle.der.proofs.ReadingNodes.{ReadsNode, ReadsNodes, node_at-encoding, node_at_reads, nodes_written, nodes_read}
use Rattle.der.proofs.ReadingNodes.{nodes_with_none, encoding_some, tree_of-encoding, tree_of_reads}
use Rattle.der.proofs.ReadingRuns.{nodes_with_step, node_at_inner_refused, node_at_constructed, node_at_primitive}

both_true : (a b : Bool) → (a && b) ≡ true → (a ≡ true) × (b ≡ true)
both_true true b e = (refl, e)
both_true false b e = absurd cc

bytes_of : (octets : List ℕ) → list_all (λ octet. nat_lt octet 256) octets ≡ true → AreOctets octets
bytes_of [] e = tt
bytes_of (octet ∷ octets) e =
    let both = both_true (nat_lt octet 256) (list_all (λ octet. nat_lt octet 256) octets) e in
    (ltb-true octet 256 both.0, bytes_of octets both.1)

all_bytes : (octets : List ℕ) → AreOctets octets → list_all (λ octet. nat_lt octet 256) octets ≡ true
all_bytes [] bytes = refl
all_bytes (octet ∷ octets) bytes = rw (lt-ltb octet 256 bytes.0, all_bytes octets bytes.1) refl

ok_found : {A : Type 0} (other : A) (r : Result A DerFault) → is_ok r ≡ true → r ≡ Ok (read_or other r)
ok_found other (Ok x) e = refl
ok_found other (Err fault) e = absurd cc

pub record HoldsValue (octets : List ℕ) : Type 0 where
  pub lawful : IsLawful (value_in octets)
  pub encoded : octets ≡ encoding (value_in octets)

pub holds_value : (octets : List ℕ) → is_value octets ≡ true → HoldsValue octets
unfolding is_value value_in
holds_value octets e =
    let both = both_true (list_all (λ octet. nat_lt octet 256) octets) (is_ok (tree_of octets)) e in
    let read = tree_of_reads octets (value_in octets) (bytes_of octets both.0)
    (ok_found (primitive 0 []) (tree_of octets) both.1) in
    record { lawful = read.0; encoded = read.1 }

pub is_value-encoding : (n : Node) → IsLawful n → is_value (encoding n) ≡ true
unfolding is_value
is_value-encoding n lawful = rw (all_bytes (encoding n) (AreOctets-encoding n lawful.formed), tree_of-encoding n lawful)
    refl

pub value_in-encoding : (n : Node) → IsLawful n → value_in (encoding n) ≡ n
unfolding value_in
value_in-encoding n lawful = rw (tree_of-encoding n lawful) refl

pub values_at-encodings : (k : ℕ) (ns : Nodes) → AreFormed ns → levels_of ns ≤ k → values_at k (encodings ns) ≡ Ok ns
unfolding values_at
values_at-encodings k ns formed deep =
    nodes_written k (node_at-encoding k) ns (length (encodings ns)) formed deep (omega arith)

pub values_at_reads : (k : ℕ) (octets : List ℕ) (ns : Nodes) → AreOctets octets → values_at k octets ≡ Ok ns
    → ReadsNodes k octets ns
unfolding values_at
values_at_reads k octets ns bytes e = nodes_read k (node_at_reads k) (length octets) octets ns bytes e

pub record HoldsValues (octets : List ℕ) : Type 0 where
  pub formed : AreFormed (values_in octets)
  pub depth : levels_of (values_in octets) ≤ 32
  pub encoded : octets ≡ encodings (values_in octets)

pub holds_values : (octets : List ℕ) → are_values octets ≡ true → HoldsValues octets
unfolding are_values values_in
holds_values octets e =
    let both = both_true (list_all (λ octet. nat_lt octet 256) octets) (is_ok (values_at 32 octets)) e in
    let read = values_at_reads 32 octets (values_in octets) (bytes_of octets both.0)
    (ok_found no_nodes (values_at 32 octets) both.1) in
    record { formed = read.formed; depth = read.depth; encoded = read.all }

pub are_values-encodings : (ns : Nodes) → AreFormed ns → levels_of ns ≤ 32 → are_values (encodings ns) ≡ true
unfolding are_values
are_values-encodings ns formed deep = rw (
  all_bytes (encodings ns) (AreOctets-encodings ns formed),
  values_at-encodings 32 ns formed deep,
) refl

pub values_in-encodings : (ns : Nodes) → AreFormed ns → levels_of ns ≤ 32 → values_in (encodings ns) ≡ ns
unfolding values_in
values_in-encodings ns formed deep = rw (values_at-encodings 32 ns formed deep) refl

-- ---- how many values are read at most is no matter where that is not fewer than the octets

shorter : (k : ℕ) (octets : List ℕ) (n : Node) (rest : List ℕ) → ReadsNode k octets n rest → length rest < length octets
shorter k octets n rest read = omega (arith, ap length read.front, length-append (encoding n) rest, encoding_some n)

abbrev Same : ℕ → ℕ → ℕ → List ℕ → Type 0
Same k c d octets = nodes_with (node_at k) c octets ≡ nodes_with (node_at k) d octets

abbrev Enough : ℕ → ℕ → ℕ → Type 0
Enough k c d = (octets : List ℕ) → AreOctets octets → length octets ≤ c → length octets ≤ d → Same k c d octets

by_first : (k c d : ℕ) → Enough k c d → (octet : ℕ) (octets : List ℕ) (r : Result (Node × List ℕ) DerFault)
    → AreOctets (octet ∷ octets) → length octets ≤ c → length octets ≤ d → node_at k (octet ∷ octets) ≡ r
    → Same k (suc c) (suc d) (octet ∷ octets)
unfolding nodes_with
by_first k c d enough octet octets (Err fault) bytes few less first = rw first refl
by_first k c d enough octet octets (Ok pair) bytes few less first =
    let n = pair.0 in
    let rest = pair.1 in
    let read = node_at_reads k (octet ∷ octets) n rest bytes first in
    let less_left = shorter k (octet ∷ octets) n rest read in
    let parts = AreOctets-parts (encoding n) rest (subst AreOctets read.front bytes) in
    let later = enough rest parts.1 (omega arith) (omega arith) in
    rw (first, later) refl

pub enough_values : (k c d : ℕ) → Enough k c d
enough_values k c d [] bytes few less = nodes_with_none (node_at k) c ∙ sym (nodes_with_none (node_at k) d)
enough_values k zero d (octet ∷ octets) bytes few less = absurd (omega arith)
enough_values k c zero (octet ∷ octets) bytes few less = absurd (omega arith)
enough_values k (suc c) (suc d) (octet ∷ octets) bytes few less =
    by_first k c d (enough_values k c d) octet octets (node_at k (octet ∷ octets)) bytes (omega arith)
    (omega arith) refl

-- ---- one value after the other

-- whether something was read, whatever it was
abbrev pub forget : {A : Type 0} → Result A DerFault → Result (Unit {0}) DerFault
forget (Ok x) = Ok tt
forget (Err fault) = Err fault

forget-then : (n : Node) (r : Result Nodes DerFault) → forget (r >>= λ others. Ok (node n others)) ≡ forget r
forget-then n (Ok others) = refl
forget-then n (Err fault) = refl

pub record ValuesFollow (k : ℕ) (octets rest : List ℕ) : Type 0 where
  pub same : forget (values_at k rest) ≡ forget (values_at k octets)
  pub bytes : AreOctets rest
  pub shorter : length rest < length octets

one_less : (k : ℕ) (octets : List ℕ) (n : Node) (rest : List ℕ) → 0 < length octets → node_at k octets ≡ Ok (n, rest)
    → nodes_with (node_at k) (length octets) octets
    ≡ (nodes_with (node_at k) (length octets - 1) rest >>= λ others. Ok (node n others))
one_less k octets n rest some first =
    let count : length octets ≡ suc (length octets - 1) = omega arith in
    ap (λ c. nodes_with (node_at k) c octets) count
    ∙ nodes_with_step (node_at k) (length octets - 1) octets n rest some first

pub values_follow : (k : ℕ) (octets : List ℕ) (n : Node) (rest : List ℕ) → AreOctets octets → 0 < length octets
    → node_at k octets ≡ Ok (n, rest) → ValuesFollow k octets rest
unfolding values_at
values_follow k octets n rest bytes some first =
    let read = node_at_reads k octets n rest bytes first in
    let less = shorter k octets n rest read in
    let parts = AreOctets-parts (encoding n) rest (subst AreOctets read.front bytes) in
    let step = one_less k octets n rest some first
    ∙ ap (λ r. r >>= λ others. Ok (node n others))
    (enough_values k (length octets - 1) (length rest) rest parts.1 (omega arith) (omega arith)) in
    record {
      same = sym (ap forget step ∙ forget-then n (nodes_with (node_at k) (length rest) rest));
      bytes =
          parts.1;
      shorter = less;
    }

first_fails : (k count : ℕ) (octets : List ℕ) (fault : DerFault) → 0 < length octets → length octets ≤ count
    → node_at k octets ≡ Err fault → nodes_with (node_at k) count octets ≡ Err fault
unfolding nodes_with
first_fails k count [] fault some enough first = absurd (omega arith)
first_fails k zero octets fault some enough first = absurd (omega arith)
first_fails k (suc count) (octet ∷ octets) fault some enough first = rw first refl

pub values_fail : (k : ℕ) (octets : List ℕ) (fault : DerFault) → 0 < length octets → node_at k octets ≡ Err fault
    → values_at k octets ≡ Err fault
unfolding values_at
values_fail k octets fault some first = first_fails k (length octets) octets fault some (omega arith) first

pub values_end : (k : ℕ) (octets : List ℕ) → length octets ≡ 0 → values_at k octets ≡ Ok no_nodes
unfolding values_at
values_end k [] none = nodes_with_none (node_at k) 0
values_end k (octet ∷ octets) none = absurd (omega arith)

pub forget_err : {A : Type 0} (r : Result A DerFault) (fault : DerFault) → forget r ≡ Err fault → r ≡ Err fault
forget_err (Ok x) fault e = absurd cc
forget_err (Err other) fault e = cc

pub forget_ok : {A : Type 0} (r : Result A DerFault) → forget r ≡ Ok tt → (x : A) × (r ≡ Ok x)
forget_ok (Ok x) e = (x, refl)
forget_ok (Err fault) e = absurd cc

-- octets that are read are the encodings of what they are read as
pub encodings_from : (k : ℕ) (octets : List ℕ) (ns : Nodes) → AreOctets octets → values_at k octets ≡ Ok ns
    → AreEncodings k octets
encodings_from k octets ns bytes e =
    let read = values_at_reads k octets ns bytes e in
    record { values = ns; formed = read.formed; depth = read.depth; encoded = read.all }

-- encodings are read
pub encodings_read : (k : ℕ) (octets : List ℕ) (all : AreEncodings k octets) → values_at k octets ≡ Ok all.values
encodings_read k octets all = ap (values_at k) all.encoded ∙ values_at-encodings k all.values all.formed all.depth

-- ---- a value's own octets, and the values inside

pub inner_fails : (levels : ℕ) (octets : List ℕ) (found : Piece) (fault : DerFault) → 0 < levels
    → element_at octets ≡ Ok found → (bit_six found.identifier == 1) ≡ true
    → values_at (levels - 1) found.contents ≡ Err fault → node_at levels octets ≡ Err fault
unfolding values_at
inner_fails levels octets found fault some first bit inner =
    node_at_inner_refused levels octets found fault some first bit inner

abbrev pub FoundNode : ℕ → List ℕ → List ℕ → Type 0
FoundNode levels octets rest = (n : Node) × (node_at levels octets ≡ Ok (n, rest))

pub inner_found : (levels : ℕ) (octets : List ℕ) (found : Piece) (ns : Nodes) → 0 < levels
    → element_at octets ≡ Ok found → (bit_six found.identifier == 1) ≡ true
    → values_at (levels - 1) found.contents ≡ Ok ns → FoundNode levels octets found.rest
unfolding values_at
inner_found levels octets found ns some first bit inner =
    (constructed found.identifier ns, node_at_constructed levels octets found ns some first bit inner)

pub outer_found : (levels : ℕ) (octets : List ℕ) (found : Piece) → 0 < levels → element_at octets ≡ Ok found
    → (bit_six found.identifier == 1) ≡ false → FoundNode levels octets found.rest
outer_found levels octets found some first bit =
    (primitive found.identifier found.contents, node_at_primitive levels octets found some first bit)

-- what says that values were read says whether the octets are encodings
pub says_whether : (levels : ℕ) (octets : List ℕ) (r : Result (Unit {0}) DerFault) → AreOctets octets
    → MatchResult r (λ x. (ns : Nodes) × (values_at levels octets ≡ Ok ns))
    (λ fault. values_at levels octets ≡ Err fault) → (r ≡ Ok tt) ↔ AreEncodings levels octets
says_whether levels octets (Ok tt) bytes found = (λ e. encodings_from levels octets found.0 bytes found.1, λ all. refl)
says_whether levels octets (Err fault) bytes fails =
    (λ e. absurd cc, λ all. absurd (err_is_not fault all.values (sym fails ∙ encodings_read levels octets all)))
