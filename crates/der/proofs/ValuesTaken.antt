-- What is taken from octets that hold lawful values.
use Rattle.std.proofs.Common.{◌≡◌, ℕ, ◌%◌, ◌<◌, ◌≤◌, ◌^◌, ◌==◌, Bool, true, false, List, [], ◌∷◌, ◌++◌, length, Some}
use Rattle.std.proofs.Common.{None, Ok, refl, sym, ap, ap₂, ◌∙◌, arith}
use Rattle.std.proofs.lemmas.{Bool.eq-eqb, Bool.ne_eqb, List.length-append, List.append-nil}
use Rattle.der.specs.Node.{Node, primitive, constructed, Nodes, no_nodes, node, element, encoding, encodings}
use Rattle.der.specs.Node.{contents_octets, identifier_of, contents_of, components_of, first_of, take_under, is_end}
use Rattle.der.specs.Node.{levels_of, bit_six, IsLowTag, IsFormed, AreFormed, IsLawful, AreOctets}
use Rattle.der.{specs.FirstFault.tree_of, proofs.ReadingNodes.encoding_some, proofs.ReadingNodes.tree_of_reads}
use Rattle.der.specs.DataValue.{value_in, values_in, is_value, are_values}
use Rattle.der.proofs.{Elements.one_beginning, ValuesRead.values_in-encodings}
use Rattle.der.proofs.ValuesRead.{holds_value, is_value-encoding, value_in-encoding, holds_values, are_values-encodings}

encoding_is : (n : Node) → encoding n ≡ element (identifier_of n) (contents_octets n)
encoding_is (primitive identifier contents) = refl
encoding_is (constructed identifier components) = refl

low_tag_of : (n : Node) → IsFormed n → IsLowTag (identifier_of n)
low_tag_of (primitive identifier contents) formed = formed.0
low_tag_of (constructed identifier components) formed = formed.0

short_contents : (n : Node) → IsFormed n → length (contents_octets n) < 2 ^ 24
short_contents (primitive identifier contents) formed = formed.3
short_contents (constructed identifier components) formed = formed.3

-- no octets begin with this element
abbrev pub Nowhere : List ℕ → Type 0
Nowhere octets = (identifier : ℕ) (contents rest : List ℕ) → identifier % 32 < 31 → length contents < 2 ^ 24
    → octets ≡ element identifier contents ++ rest → ⊥

-- it is the element that octets begin with
abbrev pub Only : List ℕ → ℕ → List ℕ → Type 0
Only octets tag content = (identifier : ℕ) (contents rest : List ℕ) → identifier % 32 < 31 → length contents < 2 ^ 24
    → octets ≡ element identifier contents ++ rest → (tag ≡ identifier) × (content ≡ contents)

-- ---- the first of values

none_of : (octets : List ℕ) (ns : Nodes) → AreFormed ns → octets ≡ encodings ns → Nowhere octets → first_of ns ≡ None
none_of octets no_nodes formed e nowhere = refl
none_of octets (node first others) formed e nowhere =
    absurd (nowhere (identifier_of first) (contents_octets first) (encodings others) (low_tag_of first formed.0).1
    (short_contents first formed.0) (e ∙ ap (λ front. front ++ encodings others) (encoding_is first)))

pub next_none : (octets : List ℕ) → are_values octets ≡ true → Nowhere octets → first_of (values_in octets) ≡ None
next_none octets held nowhere =
    let all = holds_values octets held in none_of octets (values_in octets) all.formed all.encoded nowhere

pub record NextFound (octets whole rest : List ℕ) : Type 0 where
  pub value : is_value whole ≡ true
  pub left : are_values rest ≡ true
  pub first : first_of (values_in octets) ≡ Some (value_in whole, values_in rest)

record FirstOf (ns : Nodes) (whole rest : List ℕ) : Type 0 where
  value : is_value whole ≡ true
  left : are_values rest ≡ true
  first : first_of ns ≡ Some (value_in whole, values_in rest)

same_rest : (whole rest others : List ℕ) (octets : List ℕ) → octets ≡ whole ++ rest → octets ≡ whole ++ others
    → rest ≡ others
same_rest [] rest others octets e f = sym e ∙ f
same_rest (octet ∷ whole) rest others [] e f = absurd cc
same_rest (octet ∷ whole) rest others (first ∷ octets) e f =
    let cons_injective : (x y : ℕ) (xs ys : List ℕ) → ◌≡◌ {A = List ℕ} (x ∷ xs) (y ∷ ys)
    → xs ≡ ys = λ x y xs ys e. cc in
    same_rest whole rest others octets (cons_injective first octet octets (whole ++ rest) e)
    (cons_injective first octet octets (whole ++ others) f)

found_of : (ns : Nodes) (octets whole : List ℕ) (tag : ℕ) (content rest : List ℕ) → AreFormed ns → levels_of ns ≤ 32
    → octets ≡ encodings ns → octets ≡ whole ++ rest → whole ≡ element tag content → Only octets tag content
    → FirstOf ns whole rest
found_of no_nodes octets whole tag content rest formed deep e front is only =
    absurd (omega (arith, ap length e, ap length front, ap length is, length-append whole rest))
found_of (node first others) octets whole tag content rest formed deep e front is only =
    let same = only (identifier_of first) (contents_octets first) (encodings others) (low_tag_of first formed.0).1
    (short_contents first formed.0) (e ∙ ap (λ front. front ++ encodings others) (encoding_is first)) in
    let whole_is : whole ≡ encoding first = is ∙ (ap₂ element same.0 same.1 ∙ sym (encoding_is first)) in
    let rest_is : rest ≡ encodings others =
    same_rest whole rest (encodings others) octets front
    (e ∙ ap (λ front. front ++ encodings others) (sym whole_is)) in
    let lawful : IsLawful first = record { formed = formed.0; depth = omega (arith, deep) } in
    record {
      value = rw whole_is (is_value-encoding first lawful);
      left = rw rest_is (are_values-encodings others formed.1 (omega (arith, deep)));
      first = rw (
        whole_is,
        rest_is,
        value_in-encoding first lawful,
        values_in-encodings others formed.1 (omega (arith, deep)),
      ) refl;
    }

pub next_found : (octets whole : List ℕ) (tag : ℕ) (content rest : List ℕ) → are_values octets ≡ true
    → octets ≡ whole ++ rest → whole ≡ element tag content → Only octets tag content → NextFound octets whole rest
next_found octets whole tag content rest held front is only =
    let all = holds_values octets held in
    let found = found_of (values_in octets) octets whole tag content rest all.formed all.depth all.encoded front is
    only in
    record { value = found.value; left = found.left; first = found.first }

-- ---- the first of values under a tag

pub take_same : (tag : ℕ) (ns : Nodes) (n : Node) (others : Nodes) → first_of ns ≡ Some (n, others)
    → identifier_of n ≡ tag → take_under tag ns ≡ (Some n, others)
take_same tag no_nodes n others e is = absurd cc
take_same tag (node first later) n others e is =
    let same : ◌≡◌ {A = Node × Nodes} (first, later) (n, others) = cc in
    let same_first : first ≡ n = ap (λ pair. pair.0) same in
    let same_others : later ≡ others = ap (λ pair. pair.1) same in
    let test : (identifier_of first == tag) ≡ true =
    eq-eqb (identifier_of first) tag (ap identifier_of same_first ∙ is) in
    rw test (ap₂ (λ x y. (Some x, y)) same_first same_others)

-- ---- no value is left

end_by : (octets : List ℕ) (ns : Nodes) (b : Bool) → octets ≡ encodings ns → (length octets == 0) ≡ b → b ≡ is_end ns
end_by octets no_nodes b e test = sym test ∙ eq-eqb (length octets) 0 (ap length e)
end_by octets (node first others) b e test =
    let long : length octets ≡ 0 → ⊥ = λ none. omega
    (arith, ap length e, length-append (encoding first) (encodings others), encoding_some first, none) in
    sym test ∙ ne_eqb (length octets) 0 long

pub end_of_values : (octets : List ℕ) → are_values octets ≡ true → (length octets == 0) ≡ is_end (values_in octets)
end_of_values octets held = end_by octets (values_in octets) (length octets == 0) (holds_values octets held).encoded
    refl

pub no_values : are_values [] ≡ true
no_values = are_values-encodings no_nodes tt (omega arith)

pub none_in : values_in [] ≡ no_nodes
none_in = values_in-encodings no_nodes tt (omega arith)

-- ---- the parts of a value

abbrev pub Parts : ℕ → List ℕ → Node → Type 0
Parts tag content (primitive identifier contents) = (tag ≡ identifier) × (content ≡ contents) × (bit_six tag ≡ 0)
Parts tag content (constructed identifier components) =
    (tag ≡ identifier) × (bit_six tag ≡ 1) × (are_values content ≡ true) × (values_in content ≡ components)

one_element : (tag : ℕ) (content : List ℕ) (n : Node) (whole : List ℕ) → IsFormed n → whole ≡ encoding n
    → whole ≡ element tag content → tag % 32 < 31 → length content < 2 ^ 24 → (tag ≡ identifier_of n)
    × (content ≡ contents_octets n)
one_element tag content n whole formed e is low short =
    let same = one_beginning tag (identifier_of n) content (contents_octets n) [] [] low (low_tag_of n formed).1 short
    (short_contents n formed) (append-nil (element tag content)
    ∙ (sym is ∙ (e ∙ (encoding_is n ∙ sym (append-nil (element (identifier_of n) (contents_octets n))))))) in
    (same.0, same.1)

parts_by : (tag : ℕ) (content : List ℕ) (n : Node) (whole : List ℕ) → IsLawful n → whole ≡ encoding n
    → whole ≡ element tag content → tag % 32 < 31 → length content < 2 ^ 24 → Parts tag content n
parts_by tag content (primitive identifier contents) whole lawful e is low short =
    let same = one_element tag content (primitive identifier contents) whole lawful.formed e is low short in
    (same.0, same.1, ap bit_six same.0 ∙ lawful.formed.1)
parts_by tag content (constructed identifier components) whole lawful e is low short =
    let same = one_element tag content (constructed identifier components) whole lawful.formed e is low short in
    let deep : levels_of components ≤ 32 = omega (arith, lawful.depth) in (
      same.0,
      ap bit_six same.0 ∙ lawful.formed.1,
      rw same.1 (are_values-encodings components lawful.formed.2 deep),
      rw same.1 (values_in-encodings components lawful.formed.2 deep),
    )

pub parts_of_value : (whole : List ℕ) (tag : ℕ) (content : List ℕ) → is_value whole ≡ true → whole ≡ element tag content
    → tag % 32 < 31 → length content < 2 ^ 24 → Parts tag content (value_in whole)
parts_of_value whole tag content held is low short =
    let value = holds_value whole held in
    parts_by tag content (value_in whole) whole value.lawful value.encoded is low short

pub identifier_is : (tag : ℕ) (content : List ℕ) (n : Node) → Parts tag content n → tag ≡ identifier_of n
identifier_is tag content (primitive identifier contents) parts = parts.0
identifier_is tag content (constructed identifier components) parts = parts.0

-- the contents octets under the tag
pub contents_found : (wanted tag : ℕ) (content : List ℕ) (n : Node) → Parts tag content n → tag ≡ wanted
    → (bit_six wanted ≡ 1 → ⊥) → contents_of wanted n ≡ Some content
contents_found wanted tag content (primitive identifier contents) parts is bit =
    let test : (identifier == wanted) ≡ true = eq-eqb identifier wanted (sym parts.0 ∙ is) in rw (test, parts.1) refl
contents_found wanted tag content (constructed identifier components) parts is bit =
    absurd (bit (sym (ap bit_six is) ∙ parts.1))

pub contents_other : (wanted tag : ℕ) (content : List ℕ) (n : Node) → Parts tag content n → (tag ≡ wanted → ⊥)
    → contents_of wanted n ≡ None
contents_other wanted tag content (primitive identifier contents) parts other =
    let test : (identifier == wanted) ≡ false = ne_eqb identifier wanted (λ is. other (parts.0 ∙ is)) in rw test refl
contents_other wanted tag content (constructed identifier components) parts other = refl

pub contents_inside : (wanted tag : ℕ) (content : List ℕ) (n : Node) → Parts tag content n → tag ≡ wanted
    → bit_six wanted ≡ 1 → contents_of wanted n ≡ None
contents_inside wanted tag content (primitive identifier contents) parts is bit =
    absurd (omega (arith, parts.2, bit, ap bit_six is))
contents_inside wanted tag content (constructed identifier components) parts is bit = refl

-- the values under the tag
pub components_found : (wanted tag : ℕ) (content : List ℕ) (n : Node) → Parts tag content n → tag ≡ wanted
    → bit_six wanted ≡ 1 → (components_of wanted n ≡ Some (values_in content)) × (are_values content ≡ true)
components_found wanted tag content (primitive identifier contents) parts is bit =
    absurd (omega (arith, parts.2, bit, ap bit_six is))
components_found wanted tag content (constructed identifier components) parts is bit =
    let test : (identifier == wanted) ≡ true = eq-eqb identifier wanted (sym parts.0 ∙ is) in
    (rw (test, parts.3) refl, parts.2)

pub components_other : (wanted tag : ℕ) (content : List ℕ) (n : Node) → Parts tag content n → (tag ≡ wanted → ⊥)
    → components_of wanted n ≡ None
components_other wanted tag content (primitive identifier contents) parts other = refl
components_other wanted tag content (constructed identifier components) parts other =
    let test : (identifier == wanted) ≡ false = ne_eqb identifier wanted (λ is. other (parts.0 ∙ is)) in rw test refl

pub components_outside : (wanted tag : ℕ) (content : List ℕ) (n : Node) → Parts tag content n → tag ≡ wanted
    → (bit_six wanted ≡ 1 → ⊥) → components_of wanted n ≡ None
components_outside wanted tag content (primitive identifier contents) parts is bit = refl
components_outside wanted tag content (constructed identifier components) parts is bit =
    absurd (bit (sym (ap bit_six is) ∙ parts.1))

-- ---- the value that octets are

pub record ReadsAlone (octets whole : List ℕ) (n : Node) : Type 0 where
  pub held : is_value whole ≡ true
  pub lawful : IsLawful n
  pub encoded : octets ≡ encoding n
  pub seen : value_in whole ≡ n

pub reads_alone : (octets whole : List ℕ) (tag : ℕ) (content : List ℕ) (n : Node) → AreOctets octets
    → tree_of octets ≡ Ok n → whole ≡ element tag content → Only octets tag content → ReadsAlone octets whole n
reads_alone octets whole tag content n bytes found is only =
    let read = tree_of_reads octets n bytes found in
    let lawful = read.0 in
    let same = only (identifier_of n) (contents_octets n) [] (low_tag_of n lawful.formed).1
    (short_contents n lawful.formed) (read.1
    ∙ (encoding_is n ∙ sym (append-nil (element (identifier_of n) (contents_octets n))))) in
    let whole_is : whole ≡ encoding n = is ∙ (ap₂ element same.0 same.1 ∙ sym (encoding_is n)) in
    record {
      held = rw whole_is (is_value-encoding n lawful);
      lawful = lawful;
      encoded = read.1;
      seen = rw whole_is (value_in-encoding n lawful);
    }
