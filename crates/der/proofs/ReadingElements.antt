-- Reading a value's octets gives its identifier and contents, and no other octets are read as those.
use Rattle.std.proofs.Common.{◌≡◌, ℕ, ◌%◌, ◌<◌, ◌^◌, ◌==◌, false, List, [], ◌∷◌, ◌++◌, length, take, drop, Ok, nat_lt}
use Rattle.std.proofs.Common.{refl, sym, ap, ap₂, subst, ◌∙◌, arith, append_assoc}
use Rattle.std.proofs.lemmas.Bool.{ltb-false, le-ltb, ne_eqb, eqb-false}
use Rattle.std.proofs.lemmas.List.{length-append, take-append-drop, length-take-le}
use Rattle.std.proofs.Math.Seq.{take-append_seam, drop-append_seam}
use Rattle.der.specs.Node.{length_octets, element, AreOctets}
use Rattle.der.specs.FirstFault.{Piece, identifier_at, length_at, contents_at, element_at}
use Rattle.der.specs.declared.fault.DerFault.TheVariants.{Truncated, HighTag}
use Rattle.der.proofs.{Octets.AreOctets-parts, ReadingSteps.ok_is, ReadingSteps.else_ok, ReadingSteps.bind_ok}
use Rattle.der.proofs.ReadingLengths.{length_at-length_octets, length_at_reads}

abbrev pub piece : ℕ → List ℕ → List ℕ → Piece
piece identifier contents rest = record { identifier = identifier; contents = contents; rest = rest }

low_tag : (identifier : ℕ) (rest : List ℕ) → identifier % 32 < 31
    → identifier_at (identifier ∷ rest) ≡ Ok (identifier, rest)
unfolding identifier_at
low_tag identifier rest low = let test : (identifier % 32 == 31) ≡ false =
    ne_eqb (identifier % 32) 31 (λ e. omega arith) in rw test refl

contents_seam : (identifier : ℕ) (contents rest : List ℕ)
    → contents_at identifier (length contents) (contents ++ rest) ≡ Ok (piece identifier contents rest)
unfolding contents_at
contents_seam identifier contents rest =
    let all : nat_lt (length (contents ++ rest)) (length contents) ≡ false =
    le-ltb (length (contents ++ rest)) (length contents) (omega (arith, length-append contents rest)) in
    rw (all, take-append_seam contents rest, drop-append_seam contents rest) refl

pub element_at-element : (identifier : ℕ) (contents rest : List ℕ) → identifier % 32 < 31 → length contents < 2 ^ 24
    → element_at (element identifier contents ++ rest) ≡ Ok (piece identifier contents rest)
unfolding element_at
element_at-element identifier contents rest low short =
    let count = length_at-length_octets (length contents) (contents ++ rest) short in
    rw (
      low_tag identifier ((length_octets (length contents) ++ contents) ++ rest) low,
      append_assoc (length_octets (length contents)) contents rest,
      count,
    ) (contents_seam identifier contents rest)

pub record ReadsElement (octets : List ℕ) (found : Piece) : Type 0 where
  pub front : octets ≡ element found.identifier found.contents ++ found.rest
  pub low_tag : found.identifier % 32 < 31
  pub short : length found.contents < 2 ^ 24

record ReadsIdentifier (octets : List ℕ) (identifier : ℕ) (rest : List ℕ) : Type 0 where
  is : octets ≡ identifier ∷ rest
  is_low : identifier % 32 < 31

identifier_reads : (octets : List ℕ) (identifier : ℕ) (rest : List ℕ) → identifier_at octets ≡ Ok (identifier, rest)
    → ReadsIdentifier octets identifier rest
unfolding identifier_at
identifier_reads [] identifier rest e = absurd cc
identifier_reads (first ∷ others) identifier rest e =
    let step = else_ok (first % 32 == 31) HighTag (Ok (first, others)) (identifier, rest) e in
    let same = ok_is (first, others) (identifier, rest) step.1 in
    let first_is : first ≡ identifier = ap (λ pair. pair.0) same in
    let others_is : others ≡ rest = ap (λ pair. pair.1) same in
    record {
      is = ap₂ (λ octet octets. octet ∷ octets) first_is others_is;
      is_low = rw (← first_is) (omega (arith, eqb-false (first % 32) 31 step.0));
    }

record ReadsContents (identifier count : ℕ) (octets : List ℕ) (found : Piece) : Type 0 where
  same : found.identifier ≡ identifier
  split : octets ≡ found.contents ++ found.rest
  long : length found.contents ≡ count

contents_read : (identifier count : ℕ) (octets : List ℕ) (found : Piece)
    → contents_at identifier count octets ≡ Ok found → ReadsContents identifier count octets found
unfolding contents_at
contents_read identifier count octets found e =
    let step = else_ok (nat_lt (length octets) count) Truncated _ found e in
    let same = ok_is (piece identifier (take count octets) (drop count octets)) found step.1 in
    let P : Piece → Type 0 = λ p. ReadsContents identifier count octets p in
    subst P same (record {
      same = refl;
      split = sym (take-append-drop count octets);
      long = length-take-le count octets (ltb-false (length octets) count step.0);
    })

pub element_at_reads : (octets : List ℕ) (found : Piece) → AreOctets octets → element_at octets ≡ Ok found
    → ReadsElement octets found
unfolding element_at
element_at_reads octets found bytes e =
    let first = bind_ok (identifier_at octets) _ found e in
    let at_first = identifier_reads octets first.0.0 first.0.1 first.1 in
    let second = bind_ok (length_at first.0.1) _ found first.2 in
    let later = (AreOctets-parts (first.0.0 ∷ []) first.0.1 (subst AreOctets at_first.is bytes)).1 in
    let at_second = length_at_reads first.0.1 second.0.0 second.0.1 later second.1 in
    let at_third = contents_read first.0.0 second.0.0 second.0.1 found second.2 in
    let c : List ℕ = found.contents in
    record {
      front = at_first.is ∙ ap (λ others. first.0.0 ∷ others)
          (at_second.front ∙ (ap (λ others. length_octets second.0.0 ++ others) at_third.split
          ∙ sym (append_assoc (length_octets second.0.0) c found.rest)))
          ∙ ap₂ (λ octet count. octet ∷ ((length_octets count ++ c) ++ found.rest)) (sym at_third.same)
          (sym at_third.long);
      low_tag = rw at_third.same at_first.is_low;
      short = rw at_third.long at_second.small;
    }
