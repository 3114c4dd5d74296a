-- Reading a value's encoding gives the value, and what is read as a value begins with its encoding.
use Rattle.std.proofs.Common.{◌≡◌, ℕ, zero, suc, max, ◌<◌, ◌≤◌, ◌^◌, ◌==◌, Bool, true, false, List, [], ◌∷◌, ◌++◌}
use Rattle.std.proofs.Common.{length, Result, Ok, refl, sym, ap, subst, ◌∙◌, arith}
use Rattle.std.proofs.lemmas.Bool.{ne_eqb, eq-eqb, eqb-true, eqb-false}
use Rattle.std.proofs.lemmas.List.{length-append, append-nil}
use Rattle.der.specs.Node.{Node, primitive, constructed, Nodes, no_nodes, node, length_octets, element, encoding}
use Rattle.der.specs.Node.{encodings, levels, levels_of, bit_six, IsFormed, AreFormed, AreOctets, IsLawful}
use Rattle.der.specs.FirstFault.{◌>>=◌, Piece, element_at, nodes_with, node_of, node_at, tree_of}
use Rattle.der.specs.declared.fault.DerFault.{DerFault, TheVariants.Trailing, TheVariants.TooDeep}
use Rattle.der.proofs.Octets.{AreOctets-parts}
use Rattle.der.proofs.ReadingSteps.{ok_is, err_is_not, then_ok, bind_ok}
use Rattle.der.proofs.ReadingElements.{ReadsElement, element_at-element, element_at_reads}

-- one value alone, at most k levels deep
abbrev ReadsWritten : ℕ → Type 0
ReadsWritten k = (n : Node) (rest : List ℕ) → IsFormed n → levels n ≤ k → node_at k (encoding n ++ rest) ≡ Ok (n, rest)

abbrev Reader : Type 0
Reader = List ℕ → Result (Node × List ℕ) DerFault

pub nodes_with_none : (one : Reader) (k : ℕ) → nodes_with one k [] ≡ Ok no_nodes
unfolding nodes_with
nodes_with_none one zero = refl
nodes_with_none one (suc k) = refl

nodes_with_more : (one : Reader) (k : ℕ) (octets : List ℕ) (n : Node) (rest : List ℕ) (others : Nodes)
    → 0 < length octets → one octets ≡ Ok (n, rest) → nodes_with one k rest ≡ Ok others
    → nodes_with one (suc k) octets ≡ Ok (node n others)
unfolding nodes_with
nodes_with_more one k [] n rest others some first later = absurd (omega arith)
nodes_with_more one k (octet ∷ octets) n rest others some first later = rw (first, later) refl

pub encoding_some : (n : Node) → 0 < length (encoding n)
encoding_some (primitive identifier contents) = omega arith
encoding_some (constructed identifier components) = omega arith

levels_some : (n : Node) → 0 < levels n
levels_some (primitive identifier contents) = omega arith
levels_some (constructed identifier components) = omega arith

pub nodes_written : (k : ℕ) → ReadsWritten k → (ns : Nodes) (count : ℕ) → AreFormed ns → levels_of ns ≤ k
    → length (encodings ns) ≤ count → nodes_with (node_at k) count (encodings ns) ≡ Ok ns
nodes_written k reads no_nodes count formed deep enough = nodes_with_none (node_at k) count
nodes_written k reads (node first others) zero formed deep enough =
    absurd (omega (arith, length-append (encoding first) (encodings others), encoding_some first))
nodes_written k reads (node first others) (suc count) formed deep enough =
    let long = length-append (encoding first) (encodings others) in
    let some = encoding_some first in
    nodes_with_more (node_at k) count (encoding first ++ encodings others) first (encodings others) others
    (omega (arith, long, some))
    (reads first (encodings others) formed.0 (omega arith))
    (nodes_written k reads others count formed.1 (omega arith) (omega (arith, long, some)))

pub node_at-encoding : (k : ℕ) → ReadsWritten k
unfolding node_at node_of
node_at-encoding zero n rest formed deep = absurd (omega (arith, levels_some n))
node_at-encoding (suc k) (primitive identifier contents) rest formed deep =
    let test : (bit_six identifier == 1) ≡ false = ne_eqb (bit_six identifier) 1 (λ e. omega (arith, e, formed.1)) in
    rw (element_at-element identifier contents rest formed.0.1 formed.3, test) refl
node_at-encoding (suc k) (constructed identifier components) rest formed deep =
    let test : (bit_six identifier == 1) ≡ true = eq-eqb (bit_six identifier) 1 formed.1 in
    let inner = nodes_written k (node_at-encoding k) components (length (encodings components)) formed.2 (omega arith)
    (omega arith) in
    rw (element_at-element identifier (encodings components) rest formed.0.1 formed.3, test, inner) refl

pub record ReadsNode (k : ℕ) (octets : List ℕ) (n : Node) (rest : List ℕ) : Type 0 where
  pub front : octets ≡ encoding n ++ rest
  pub formed : IsFormed n
  pub depth : levels n ≤ k

pub record ReadsNodes (k : ℕ) (octets : List ℕ) (ns : Nodes) : Type 0 where
  pub all : octets ≡ encodings ns
  pub formed : AreFormed ns
  pub depth : levels_of ns ≤ k

abbrev ReadsBack : ℕ → Type 0
ReadsBack k = (octets : List ℕ) (n : Node) (rest : List ℕ) → AreOctets octets → node_at k octets ≡ Ok (n, rest)
    → ReadsNode k octets n rest

pub nodes_read : (k : ℕ) → ReadsBack k → (count : ℕ) (octets : List ℕ) (ns : Nodes) → AreOctets octets
    → nodes_with (node_at k) count octets ≡ Ok ns → ReadsNodes k octets ns
unfolding nodes_with
nodes_read k reads zero [] ns bytes e =
    let P : Nodes → Type 0 = λ found. ReadsNodes k [] found in
    subst P (ok_is no_nodes ns e) (record { all = refl; formed = tt; depth = omega arith })
nodes_read k reads (suc count) [] ns bytes e =
    let P : Nodes → Type 0 = λ found. ReadsNodes k [] found in
    subst P (ok_is no_nodes ns e) (record { all = refl; formed = tt; depth = omega arith })
nodes_read k reads zero (octet ∷ octets) ns bytes e = absurd (err_is_not Trailing ns e)
nodes_read k reads (suc count) (octet ∷ octets) ns bytes e =
    let first = bind_ok (node_at k (octet ∷ octets)) _ ns e in
    let n = first.0.0 in
    let rest = first.0.1 in
    let at_first = reads (octet ∷ octets) n rest bytes first.1 in
    let later = bind_ok (nodes_with (node_at k) count rest) _ ns first.2 in
    let others = later.0 in
    let parts = AreOctets-parts (encoding n) rest (subst AreOctets at_first.front bytes) in
    let at_later = nodes_read k reads count rest others parts.1 later.1 in
    let P : Nodes → Type 0 = λ found. ReadsNodes k (octet ∷ octets) found in
    subst P (ok_is (node n others) ns later.2) (record {
      all = at_first.front ∙ ap (λ octets. encoding n ++ octets) at_later.all;
      formed = (at_first.formed, at_later.formed);
      depth = omega (arith, at_first.depth, at_later.depth);
    })

abbrev under_identifier : Piece → Nodes → Result (Node × List ℕ) DerFault
under_identifier found components = Ok (constructed found.identifier components, found.rest)

constructed_read : (k : ℕ) → ReadsBack k → (octets : List ℕ) (found : Piece) (n : Node) (rest : List ℕ)
    → AreOctets octets → ReadsElement octets found → bit_six found.identifier ≡ 1
    → (nodes_with (node_at k) (length found.contents) found.contents >>= under_identifier found) ≡ Ok (n, rest)
    → ReadsNode (suc k) octets n rest
constructed_read k reads octets found n rest bytes at_element bit e =
    let inner = bind_ok (nodes_with (node_at k) (length found.contents) found.contents) _ (n, rest) e in
    let components = inner.0 in
    let parts = AreOctets-parts (element found.identifier found.contents) found.rest
    (subst AreOctets at_element.front bytes) in
    let under = AreOctets-parts (length_octets (length found.contents)) found.contents parts.0.1 in
    let at_inner = nodes_read k reads (length found.contents) found.contents components under.1 inner.1 in
    let same = ok_is (constructed found.identifier components, found.rest) (n, rest) inner.2 in
    let P : Node × List ℕ → Type 0 = λ pair. ReadsNode (suc k) octets pair.0 pair.1 in
    let short : length (encodings components) < 2 ^ 24 = rw (← at_inner.all) at_element.short in
    subst P same (record {
      front = at_element.front ∙ ap (λ contents. element found.identifier contents ++ found.rest) at_inner.all;
      formed = ((parts.0.0, at_element.low_tag), bit, at_inner.formed, short);
      depth = omega (arith, at_inner.depth);
    })

primitive_read : (k : ℕ) (octets : List ℕ) (found : Piece) (n : Node) (rest : List ℕ) → AreOctets octets
    → ReadsElement octets found → (bit_six found.identifier ≡ 1 → ⊥)
    → ◌≡◌ {A = Result (Node × List ℕ) DerFault} (Ok (primitive found.identifier found.contents, found.rest))
    (Ok (n, rest)) → ReadsNode (suc k) octets n rest
primitive_read k octets found n rest bytes at_element bit e =
    let parts = AreOctets-parts (element found.identifier found.contents) found.rest
    (subst AreOctets at_element.front bytes) in
    let under = AreOctets-parts (length_octets (length found.contents)) found.contents parts.0.1 in
    let same = ok_is (primitive found.identifier found.contents, found.rest) (n, rest) e in
    let P : Node × List ℕ → Type 0 = λ pair. ReadsNode (suc k) octets pair.0 pair.1 in
    subst P same (record {
      front = at_element.front;
      formed = ((parts.0.0, at_element.low_tag), omega (arith, bit), under.1, at_element.short);
      depth = omega arith;
    })

piece_read : (k : ℕ) → ReadsBack k → (octets : List ℕ) (found : Piece) (n : Node) (rest : List ℕ) → AreOctets octets
    → ReadsElement octets found → (b : Bool) → (bit_six found.identifier == 1) ≡ b
    → node_of (node_at k) found ≡ Ok (n, rest) → ReadsNode (suc k) octets n rest
unfolding node_of
piece_read k reads octets found n rest bytes at_element true test e =
    constructed_read k reads octets found n rest bytes at_element (eqb-true (bit_six found.identifier) 1 test)
    (rw test at e)
piece_read k reads octets found n rest bytes at_element false test e =
    primitive_read k octets found n rest bytes at_element (eqb-false (bit_six found.identifier) 1 test) (rw test at e)

pub node_at_reads : (k : ℕ) → ReadsBack k
unfolding node_at
node_at_reads zero octets n rest bytes e = absurd (err_is_not TooDeep (n, rest) e)
node_at_reads (suc k) octets n rest bytes e =
    let step = bind_ok (element_at octets) (node_of (node_at k)) (n, rest) e in
    piece_read k (node_at_reads k) octets step.0 n rest bytes (element_at_reads octets step.0 bytes step.1)
    (bit_six step.0.identifier == 1) refl step.2

nothing : (octets : List ℕ) → length octets ≡ 0 → octets ≡ []
nothing [] e = refl
nothing (octet ∷ octets) e = absurd (omega arith)

-- a lawful value's encoding is read as that value
pub tree_of-encoding : (n : Node) → IsLawful n → tree_of (encoding n) ≡ Ok n
unfolding tree_of
tree_of-encoding n lawful =
    let found = node_at-encoding 32 n [] lawful.formed lawful.depth in
    let alone = append-nil (encoding n) in
    rw (ap (node_at 32) (sym alone) ∙ found) refl

-- what is read as a value is its encoding, and the value is lawful
pub tree_of_reads : (octets : List ℕ) (n : Node) → AreOctets octets → tree_of octets ≡ Ok n → IsLawful n
    × (octets ≡ encoding n)
unfolding tree_of
tree_of_reads octets n bytes e =
    let step = bind_ok (node_at 32 octets) _ n e in
    let m = step.0.0 in
    let rest = step.0.1 in
    let at_step = node_at_reads 32 octets m rest bytes step.1 in
    let end = then_ok (length rest == 0) Trailing m n step.2 in
    let P : Node → Type 0 = λ found. IsLawful found × (octets ≡ encoding found) in
    subst P end.1 (
      record { formed = at_step.formed; depth = at_step.depth },
      at_step.front
          ∙ (ap (λ others. encoding m ++ others) (nothing rest (eqb-true (length rest) 0 end.0))
          ∙ append-nil (encoding m)),
    )

-- two values at the front of the same octets are one
pub encoding_ends : (m n : Node) (x y : List ℕ) → IsFormed m → IsFormed n → encoding m ++ x ≡ encoding n ++ y → (m ≡ n)
    × (x ≡ y)
encoding_ends m n x y p q e =
    let k = max (levels m) (levels n) in
    let one = node_at-encoding k m x p (omega arith) in
    let other = node_at-encoding k n y q (omega arith) in
    let same = ok_is (m, x) (n, y) (sym one ∙ (ap (node_at k) e ∙ other)) in
    (ap (λ pair. pair.0) same, ap (λ pair. pair.1) same)
