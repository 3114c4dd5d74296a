-- The loop that tells the contents of object identifiers from other octets.
use Rattle.std.proofs.Common.{◌≡◌, ℕ, ◌+◌, ◌-◌, ◌*◌, ◌^◌, ◌<◌, ◌≤◌, Bool, true, false, List, ◌∷◌, length, drop, get_or}
use Rattle.std.proofs.Common.{IsTrue, ◌↔◌, refl, sym, ap, subst, ◌∙◌, arith, eqb, ltb}
use Rattle.std.{specs.Option.is_some, proofs.lemmas.List.drop_more, proofs.lemmas.List.drop_all}
use Rattle.std.proofs.lemmas.Bool.{eqb-true, eqb-false, eq-eqb, false≢true, le-ltb}
use Rattle.der.{specs.Node.AreOctets, proofs.DigitsElements.all-from_places, proofs.OidContents.ReadsAsOid-written}
use Rattle.der.specs.ObjectIdentifier.{IsOidContent, ReadsAsOid, subidentifiers_after, subidentifiers_of, oid_of}
use Rattle.der.proofs.OidContents.{fits, fits-more, fits-large, fits-padded, subidentifiers_after-more}
use Rattle.der.proofs.OidContents.{ReadsAsOid-from_fits, fits-from_ReadsAsOid, oid_of-contents, oid_of-others}

-- i octets are read: count subidentifiers, and n of the next
pub record IsReadSoFar (os : List ℕ) (i n count : ℕ) : Type 0 where
  pub same : fits n (drop i os) ≡ fits 0 os
  pub counted : count + length (subidentifiers_after n (drop i os)) ≡ length (subidentifiers_of os)
  pub few : count ≤ i

pub read_none : (os : List ℕ) → IsReadSoFar os 0 0 0
unfolding subidentifiers_of
read_none os = record { same = refl; counted = omega arith; few = omega arith }

pub read_more : (os : List ℕ) (i n count octet : ℕ) → i < length os → octet ≡ get_or os i 0 → IsReadSoFar os i n count
    → n < 2 ^ 121 → 128 ≤ octet → 0 < n * 128 + (octet - 128) → IsReadSoFar os (i + 1) (n * 128 + (octet - 128)) count
read_more os i n count octet within at so_far small high lead =
    let here : drop i os ≡ octet ∷ drop (i + 1) os = drop_more os i 0 within ∙ ap (λ o. o ∷ drop (i + 1) os) (sym at) in
    let read : subidentifiers_after n (drop i os) ≡ subidentifiers_after (n * 128 + (octet - 128)) (drop (i + 1) os) =
    ap (subidentifiers_after n) here ∙ subidentifiers_after-more n octet (drop (i + 1) os) high in
    record {
      same = sym (ap (fits n) here ∙ fits-more n octet (drop (i + 1) os) small high lead) ∙ so_far.same;
      counted = omega (arith, so_far.counted, ap length read);
      few = omega (arith, so_far.few);
    }

pub refused_large : (os : List ℕ) (i n count : ℕ) → i < length os → IsReadSoFar os i n count → 2 ^ 121 ≤ n
    → fits 0 os ≡ false
refused_large os i n count within so_far large =
    sym so_far.same ∙ (ap (fits n) (drop_more os i 0 within) ∙ fits-large n (get_or os i 0) (drop (i + 1) os) large)

pub refused_padded : (os : List ℕ) (i n count octet : ℕ) → i < length os → octet ≡ get_or os i 0
    → IsReadSoFar os i n count → n < 2 ^ 121 → 128 ≤ octet → n * 128 + (octet - 128) ≡ 0 → fits 0 os ≡ false
refused_padded os i n count octet within at so_far small high none =
    sym so_far.same ∙
    (ap (fits n) (drop_more os i 0 within ∙ ap (λ o. o ∷ drop (i + 1) os) (sym at))
    ∙ fits-padded n octet (drop (i + 1) os) small high none)

-- ---- what the answer says

-- the answer's two clauses
pub record Tells (os : List ℕ) (b : Bool) : Type 0 where
  pub content : IsTrue b ↔ IsOidContent os
  pub read : b ≡ is_some (oid_of os)

tells_others : (os : List ℕ) → (ReadsAsOid os → ⊥) → Tells os false
tells_others os h =
    record {
      content = (
        λ e. absurd (false≢true e),
        λ k. absurd (h (ReadsAsOid-written os k.subidentifiers k.oid k.encoded)),
      );
      read =
          sym (ap is_some (oid_of-others os h));
    }

tells_contents : (os : List ℕ) → ReadsAsOid os → Tells os true
tells_contents os h = record {
  content = (
    λ _. record
        { subidentifiers = subidentifiers_of os; oid = h.oid; encoded = sym h.same },
    λ _. refl,
  );
  read =
      sym (ap is_some (oid_of-contents os h));
}

pub tells_refused : (os : List ℕ) → fits 0 os ≡ false → Tells os false
tells_refused os e = tells_others os (λ h. false≢true (sym e ∙ fits-from_ReadsAsOid os h))

-- at the end of the octets
ended : (os : List ℕ) (i n count : ℕ) → length os ≤ i → IsReadSoFar os i n count → (eqb n 0 ≡ fits 0 os)
    × (count ≡ length (subidentifiers_of os))
ended os i n count end so_far =
    let none = drop_all i os end in (
      sym (ap (fits n) none) ∙ so_far.same,
      omega
          (arith, so_far.counted, ap (λ rest. length (subidentifiers_after n rest)) none),
    )

tells_contents_at_end : (os : List ℕ) (i n count : ℕ) → AreOctets os → length os ≤ i → IsReadSoFar os i n count → n ≡ 0
    → 1 ≤ count → count ≤ 32 → Tells os true
tells_contents_at_end os i n count octets end so_far none some few =
    let is = ended os i n count end so_far in
    tells_contents os (ReadsAsOid-from_fits os octets (sym is.0 ∙ eq-eqb n 0 none) (omega (arith, is.1))
    (omega (arith, is.1)))

pub tells_others_at_end : (os : List ℕ) (i n count : ℕ) → length os ≤ i → IsReadSoFar os i n count
    → (n ≡ 0 → 1 ≤ count → count ≤ 32 → ⊥) → Tells os false
tells_others_at_end os i n count end so_far h =
    let is = ended os i n count end so_far in
    tells_others os (λ k. h (eqb-true n 0 (is.0 ∙ fits-from_ReadsAsOid os k)) (omega (arith, is.1, k.oid.some))
    (omega (arith, is.1, k.oid.few)))

tells_by : (os : List ℕ) (i n count : ℕ) (b : Bool) → AreOctets os → length os ≤ i → IsReadSoFar os i n count
    → 1 ≤ count → count ≤ 32 → eqb n 0 ≡ b → Tells os b
tells_by os i n count true octets end so_far some few e =
    tells_contents_at_end os i n count octets end so_far (eqb-true n 0 e) some few
tells_by os i n count false octets end so_far some few e =
    tells_others_at_end os i n count end so_far (λ none _ _. eqb-false n 0 e none)

pub tells_at_end : (os : List ℕ) (i n count : ℕ) → ((k : ℕ) → get_or os k 0 < 256) → length os ≤ i
    → IsReadSoFar os i n count → 1 ≤ count → count ≤ 32 → Tells os (eqb n 0)
tells_at_end os i n count octets end so_far some few =
    tells_by os i n count (eqb n 0) (all-from_places 256 os (λ k _. octets k)) end so_far some few refl

-- the answer is then whether there is a subidentifier
pub tells_none : (os : List ℕ) (i n count : ℕ) → length os ≤ i → IsReadSoFar os i n count → count ≤ 0
    → Tells os (ltb 0 count)
tells_none os i n count end so_far none =
    subst (Tells os) (sym (le-ltb 0 count none))
    (tells_others_at_end os i n count end so_far (λ _ some _. absurd (omega arith)))
