-- How large and how deep values are that are made of others.
use Rattle.std.proofs.Common.{◌≡◌, ℕ, suc, max, ◌+◌, ◌<◌, ◌≤◌, ◌⊎◌, inl, inr, List, [], ◌∷◌, length, ap, arith}
use Rattle.std.proofs.Common.{length-append}
use mathlib.Core.Logic.{⊎_elim}
use Rattle.std.proofs.lemmas.Bool.Decides.{leb_tells}
use Rattle.der.specs.Node.{Node, primitive, constructed, Nodes, no_nodes, node, element, encoding, encodings, levels}
use Rattle.der.specs.Node.{levels_of, length_octets, IsLowTag, bit_six, IsFormed, AreFormed, AreOctets}
use Rattle.der.specs.Tree.{nodes}
use Rattle.der.proofs.Lengths.{length_octets_short, length_octets_one, length_octets_two, length_octets_three}
use Rattle.tsp.proofs.Components.{before}

-- 1 to 4 length octets
length_of_length : (n : ℕ) → n < 16777216 → (1 ≤ length (length_octets n)) × (length (length_octets n) ≤ 4)
length_of_length n small = ⊎_elim
    (λ l. let e = ap length (length_octets_short n l) in (omega (arith, e), omega (arith, e)))
    (λ g. ⊎_elim
    (λ l. let e = ap length (length_octets_one n g l) in (omega (arith, e), omega (arith, e)))
    (λ g2. ⊎_elim
    (λ l. let e = ap length (length_octets_two n g2 l) in (omega (arith, e), omega (arith, e)))
    (λ g3. let e = ap length (length_octets_three n g3 small) in (omega (arith, e), omega (arith, e)))
    (split n 65536))
    (split n 256))
    (split n 128)
  where
    split : (a b : ℕ) → (a < b) ⊎ (b ≤ a)
    split a b = ⊎_elim (λ p. inr p.1) (λ p. inl p.1) (leb_tells b a)

pub length-element : (t : ℕ) (c : List ℕ) → length c < 16777216 → (length c + 2 ≤ length (element t c))
    × (length (element t c) ≤ length c + 5)
length-element t c small =
    let l = length_of_length (length c) small in
    let e = length-append (length_octets (length c)) c in
    (omega (arith, e, l.0), omega (arith, e, l.1))

-- a value that is formed, of at most that many levels and octets
pub record IsWithin (depth size : ℕ) (n : Node) : Type 0 where
  pub formed : IsFormed n
  pub deep : levels n ≤ depth
  pub long : length (encoding n) ≤ size

-- the same of values one after the other
pub record AreWithin (depth size : ℕ) (ns : Nodes) : Type 0 where
  pub formed : AreFormed ns
  pub deep : levels_of ns ≤ depth
  pub long : length (encodings ns) ≤ size

pub wider : (depth size more_depth more_size : ℕ) (n : Node) → IsWithin depth size n → depth ≤ more_depth
    → size ≤ more_size → IsWithin more_depth more_size n
wider depth size more_depth more_size n h d s =
    record { formed = h.formed; deep = omega (arith, h.deep); long = omega (arith, h.long) }

pub within_none : (depth : ℕ) → AreWithin depth 0 no_nodes
within_none depth = record { formed = tt; deep = omega arith; long = omega arith }

max-le : (a b c : ℕ) → a ≤ c → b ≤ c → max a b ≤ c
max-le a b c p q = omega arith

pub within_node : (depth size rest : ℕ) (n : Node) (ns : Nodes) → IsWithin depth size n → AreWithin depth rest ns
    → AreWithin depth (size + rest) (node n ns)
within_node depth size rest n ns h g = record {
  formed = (h.formed, g.formed);
  deep = max-le (levels n) (levels_of ns) depth h.deep g.deep;
  long = omega (arith, length-append (encoding n) (encodings ns), h.long, g.long);
}

pub within_before : (depth size rest : ℕ) (xs : List Node) (ns : Nodes) → AreWithin depth size (nodes xs)
    → AreWithin depth rest ns → AreWithin depth (size + rest) (before xs ns)
within_before depth size rest [] ns h g = record { formed = g.formed; deep = g.deep; long = omega (arith, g.long) }
within_before depth size rest (x ∷ xs) ns h g =
    let tail : AreWithin depth (length (encodings (nodes xs))) (nodes xs) =
    record { formed = h.formed.1; deep = omega (arith, h.deep); long = omega arith } in
    let after = within_before depth (length (encodings (nodes xs))) rest xs ns tail g in
    record {
      formed = (h.formed.0, after.formed);
      deep = max-le (levels x) (levels_of (before xs ns)) depth (omega (arith, h.deep)) after.deep;
      long = omega (
        arith,
        length-append (encoding x) (encodings (before xs ns)),
        length-append (encoding x) (encodings (nodes xs)),
        h.long,
        after.long,
      );
    }

pub within_primitive : (t size : ℕ) (c : List ℕ) → IsLowTag t → bit_six t ≡ 0 → AreOctets c → length c ≤ size
    → size < 16777216 → IsWithin 1 (size + 5) (primitive t c)
within_primitive t size c low bit octets short small =
    let count : length c < 16777216 = omega arith in
    record {
      formed = (low, bit, octets, count);
      deep = omega arith;
      long = omega (arith, (length-element t c count).1);
    }

pub within_constructed : (t depth size : ℕ) (ns : Nodes) → IsLowTag t → bit_six t ≡ 1 → AreWithin depth size ns
    → size < 16777216 → IsWithin (suc depth) (size + 5) (constructed t ns)
within_constructed t depth size ns low bit h small =
    let count : length (encodings ns) < 16777216 = omega (arith, h.long) in
    record {
      formed = (low, bit, h.formed, count);
      deep = omega (arith, h.deep);
      long = omega (arith, (length-element t (encodings ns) count).1, h.long);
    }

-- the values inside a constructed one are within its bounds
pub within_components : (t depth size : ℕ) (ns : Nodes) → IsWithin (suc depth) size (constructed t ns)
    → AreWithin depth size ns
within_components t depth size ns h = record {
  formed = h.formed.2;
  deep = omega (arith, h.deep);
  long = omega (arith, (length-element t (encodings ns) h.formed.3).0, h.long);
}

pub within_first : (depth size : ℕ) (n : Node) (ns : Nodes) → AreWithin depth size (node n ns) → IsWithin depth size n
    × AreWithin depth size ns
within_first depth size n ns h =
    let long = length-append (encoding n) (encodings ns) in (
      record { formed = h.formed.0; deep = omega (arith, h.deep); long = omega (arith, h.long, long) },
      record { formed = h.formed.1; deep = omega (arith, h.deep); long = omega (arith, h.long, long) },
    )

pub within_parts : (depth size : ℕ) (xs : List Node) (ns : Nodes) → AreWithin depth size (before xs ns)
    → AreWithin depth size (nodes xs) × AreWithin depth size ns
within_parts depth size [] ns h = (record { formed = tt; deep = omega arith; long = omega arith }, h)
within_parts depth size (x ∷ xs) ns h =
    let one = within_first depth (length (encodings (before (x ∷ xs) ns))) x (before xs ns)
    (record { formed = h.formed; deep = h.deep; long = omega arith }) in
    let rest = within_parts depth (length (encodings (before xs ns))) xs ns
    (record { formed = one.1.formed; deep = one.1.deep; long = omega arith }) in (
      record {
        formed = (one.0.formed, rest.0.formed);
        deep = max-le (levels x) (levels_of (nodes xs)) depth one.0.deep rest.0.deep;
        long = omega (
          arith,
          h.long,
          rest.0.long,
          length-append (encoding x) (encodings (before xs ns)),
          length-append (encoding x) (encodings (nodes xs)),
        );
      },
      record {
        formed = rest.1.formed;
        deep = rest.1.deep;
        long =
            omega (arith, h.long, rest.1.long, length-append (encoding x) (encodings (before xs ns)));
      },
    )
