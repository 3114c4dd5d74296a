-- The contents octets of object identifiers: they are read as the subidentifiers that they were written from.
use Rattle.std.proofs.Common.{◌≡◌, ℕ, zero, suc, ◌+◌, ◌-◌, ◌*◌, ◌/◌, ◌%◌, ◌^◌, ◌<◌, ◌≤◌, Bool, true, false, ◌&&◌, cond}
use Rattle.std.proofs.Common.{ltb, eqb, leb, List, [], ◌∷◌, ◌++◌, length, get_or, map, Some, None, refl, sym, ap, subst}
use Rattle.std.proofs.Common.{◌∙◌, ◌⊎◌, inl, inr, ⊎_elim, arith, append_assoc, Decides}
use Rattle.std.specs.Int.Digits.{digits_of, number_from_digits, number_from_digits_after}
use Rattle.std.specs.{List.AllByRecursion, List.list_all, Str.bytes_eq}
use Rattle.std.proofs.lemmas.Bool.{cases_lt, lt-ltb, le-ltb, ltb-true, cond-true, cond-false, eqb-true, and_parts}
use Rattle.std.proofs.lemmas.Bool.{leb-true, le-leb, false_from_ne_true}
use Rattle.std.proofs.lemmas.Bool.Decides.{Decides-and, Decides-ltb, same_from_decides}
use Rattle.std.proofs.lemmas.Int.Digits.{digits_of_step, first_digits_of, number_digits_of, all_below_base_digits_of}
use Rattle.std.proofs.lemmas.Int.Digits.{number_after_ge, length-digits_of-le}
use Rattle.std.proofs.lemmas.List.{append-nil, map-append, length-map, length_push, length-append}
use Rattle.std.proofs.lemmas.{Nat.div-mul-add, Nat.mod-mul-add, Nat.div-add-mod', Slice.Eq.bytes_eq-Decides}
use Rattle.der.specs.Node.{AreOctets}
use Rattle.der.specs.ObjectIdentifier.{IsOid, ReadsAsOid, with_continuation, subidentifier_octets, oid_content}
use Rattle.der.specs.ObjectIdentifier.{subidentifiers_after, subidentifiers_of, is_oid, oid_of}
use Rattle.der.proofs.{Digits.digits_of_push, DigitsElements.all-append, DigitsElements.all-map}

-- ---- octets of a subidentifier

-- digits in base 128 with bit 8 set
abbrev pub continued : List ℕ → List ℕ
continued ds = map (λ d. 128 + d) ds

with_continuation-push : (ds : List ℕ) (x : ℕ) → with_continuation (ds ++ x ∷ []) ≡ continued ds ++ x ∷ []
with_continuation-push [] x = refl
with_continuation-push (d ∷ []) x = refl
with_continuation-push (d ∷ e ∷ ds) x = ap (λ others. (128 + d) ∷ others) (with_continuation-push (e ∷ ds) x)

pub subidentifier_octets-split : (n : ℕ) → subidentifier_octets n ≡ continued (digits_of 128 (n / 128)) ++ n % 128 ∷ []
unfolding subidentifier_octets
subidentifier_octets-split n =
    ⊎_elim
    (λ low.
    let none : n / 128 ≡ 0 = omega arith in
    let same : n % 128 ≡ n = omega arith in
    cond-true (ltb n 128) (n ∷ []) (with_continuation (digits_of 128 n)) (lt-ltb n 128 low) ∙
    sym (ap (λ k. continued (digits_of 128 k) ++ n % 128 ∷ []) none ∙ ap (λ k. k ∷ []) same))
    (λ high.
    cond-false (ltb n 128) (n ∷ []) (with_continuation (digits_of 128 n)) (le-ltb n 128 high) ∙
    (ap with_continuation (digits_of_step 128 n (omega arith) (omega arith))
    ∙ with_continuation-push (digits_of 128 (n / 128)) (n % 128)))
    (cases_lt n 128)

pub some-subidentifier_octets : (n : ℕ) → 0 < length (subidentifier_octets n)
some-subidentifier_octets n =
    omega (arith, ap length (subidentifier_octets-split n), length_push (continued (digits_of 128 (n / 128))) (n % 128))

octets-subidentifier_octets : (n : ℕ) → AreOctets (subidentifier_octets n)
octets-subidentifier_octets n =
    subst AreOctets (sym (subidentifier_octets-split n))
    (all-append (λ octet. octet < 256) (continued (digits_of 128 (n / 128))) (n % 128 ∷ [])
    (all-map (λ d. d < 128) (λ octet. octet < 256) (λ d. 128 + d) (digits_of 128 (n / 128)) (λ d below. omega arith)
    (all_below_base_digits_of 128 (n / 128) (omega arith))) (omega arith, tt))

length-subidentifier_octets : (n : ℕ) → n < 2 ^ 128 → length (subidentifier_octets n) ≤ 19
length-subidentifier_octets n small =
    omega (
      arith,
      ap length (subidentifier_octets-split n),
      length_push (continued (digits_of 128 (n / 128))) (n % 128),
      length-map (digits_of 128 (n / 128)) (λ d. 128 + d),
      length-digits_of-le 128 18 (n / 128) (omega arith) (omega arith),
    )

-- ---- reading

pub subidentifiers_after-last : (n octet : ℕ) (octets : List ℕ) → octet < 128
    → subidentifiers_after n (octet ∷ octets) ≡ (n * 128 + octet) ∷ subidentifiers_after 0 octets
subidentifiers_after-last n octet octets low = cond-true (ltb octet 128) _ _ (lt-ltb octet 128 low)

pub subidentifiers_after-more : (n octet : ℕ) (octets : List ℕ) → 128 ≤ octet
    → subidentifiers_after n (octet ∷ octets) ≡ subidentifiers_after (n * 128 + (octet - 128)) octets
subidentifiers_after-more n octet octets high = cond-false (ltb octet 128) _ _ (le-ltb octet 128 high)

subidentifiers_after-continued : (n : ℕ) (ds : List ℕ) (x : ℕ) (rest : List ℕ) → x < 128
    → subidentifiers_after n (continued ds ++ (x ∷ rest))
    ≡ (number_from_digits_after 128 n ds * 128 + x) ∷ subidentifiers_after 0 rest
subidentifiers_after-continued n [] x rest low = subidentifiers_after-last n x rest low
subidentifiers_after-continued n (d ∷ ds) x rest low =
    let same : n * 128 + (128 + d - 128) ≡ n * 128 + d = omega arith in
    subidentifiers_after-more n (128 + d) (continued ds ++ (x ∷ rest)) (omega arith) ∙
    (ap (λ k. subidentifiers_after k (continued ds ++ (x ∷ rest))) same
    ∙ subidentifiers_after-continued (n * 128 + d) ds x rest low)

front_of : (n : ℕ) (rest : List ℕ) → subidentifier_octets n ++ rest ≡ continued (digits_of 128 (n / 128))
    ++ (n % 128 ∷ rest)
front_of n rest =
    ap (λ front. front ++ rest) (subidentifier_octets-split n)
    ∙ append_assoc (continued (digits_of 128 (n / 128))) (n % 128 ∷ []) rest

pub subidentifiers_after-subidentifier : (n : ℕ) (rest : List ℕ)
    → subidentifiers_after 0 (subidentifier_octets n ++ rest) ≡ n ∷ subidentifiers_after 0 rest
subidentifiers_after-subidentifier n rest =
    let low : n % 128 < 128 = omega arith in
    let whole : number_from_digits 128 (digits_of 128 (n / 128)) * 128 + n % 128 ≡ n =
    ap (λ k. k * 128 + n % 128) (number_digits_of 128 (n / 128) (omega arith)) ∙ div-add-mod' n 128 in
    ap (subidentifiers_after 0) (front_of n rest) ∙
    (subidentifiers_after-continued 0 (digits_of 128 (n / 128)) (n % 128) rest low
    ∙ ap (λ k. k ∷ subidentifiers_after 0 rest) whole)

subidentifiers_after-content : (ss rest : List ℕ)
    → subidentifiers_after 0 (oid_content ss ++ rest) ≡ ss ++ subidentifiers_after 0 rest
subidentifiers_after-content [] rest = refl
subidentifiers_after-content (s ∷ ss) rest =
    ap (subidentifiers_after 0) (append_assoc (subidentifier_octets s) (oid_content ss) rest) ∙
    (subidentifiers_after-subidentifier s (oid_content ss ++ rest)
    ∙ ap (λ others. s ∷ others) (subidentifiers_after-content ss rest))

-- what was written is read
pub subidentifiers_of-content : (ss : List ℕ) → subidentifiers_of (oid_content ss) ≡ ss
unfolding subidentifiers_of
subidentifiers_of-content ss =
    ap (subidentifiers_after 0) (sym (append-nil (oid_content ss)))
    ∙ (subidentifiers_after-content ss [] ∙ append-nil ss)

-- ---- which octets are contents

-- with n read of the first: each subidentifier has its last octet, is below 2 ^ 128, and does not begin with 128
abbrev pub fits : ℕ → List ℕ → Bool
fits n [] = eqb n 0
fits n (octet ∷ octets) =
    ltb n (2 ^ 121) && cond (ltb octet 128) (fits 0 octets)
    (ltb 0 (n * 128 + (octet - 128)) && fits (n * 128 + (octet - 128)) octets)

pub fits-last : (n octet : ℕ) (octets : List ℕ) → n < 2 ^ 121 → octet < 128 → fits n (octet ∷ octets) ≡ fits 0 octets
fits-last n octet octets small low =
    let a = lt-ltb n (2 ^ 121) small in
    let b = lt-ltb octet 128 low in
    rw (a, b) refl

pub fits-more : (n octet : ℕ) (octets : List ℕ) → n < 2 ^ 121 → 128 ≤ octet → 0 < n * 128 + (octet - 128)
    → fits n (octet ∷ octets) ≡ fits (n * 128 + (octet - 128)) octets
fits-more n octet octets small high lead =
    let a = lt-ltb n (2 ^ 121) small in
    let b = le-ltb octet 128 high in
    let d = lt-ltb 0 (n * 128 + (octet - 128)) lead in
    rw (a, b, d) refl

pub fits-large : (n octet : ℕ) (octets : List ℕ) → 2 ^ 121 ≤ n → fits n (octet ∷ octets) ≡ false
fits-large n octet octets large = rw (le-ltb n (2 ^ 121) large) refl

pub fits-padded : (n octet : ℕ) (octets : List ℕ) → n < 2 ^ 121 → 128 ≤ octet → n * 128 + (octet - 128) ≡ 0
    → fits n (octet ∷ octets) ≡ false
fits-padded n octet octets small high none =
    let a = lt-ltb n (2 ^ 121) small in
    let b = le-ltb octet 128 high in
    let d = le-ltb 0 (n * 128 + (octet - 128)) (omega (arith, none)) in
    rw (a, b, d) refl

-- the first digit is not 0, where there is one and nothing stands before it
abbrev Leads : ℕ → List ℕ → Type 0
Leads n ds = (0 < n) ⊎ (0 < length ds → 0 < get_or ds 0 0)

leads_on : (n d : ℕ) (ds : List ℕ) → Leads n (d ∷ ds) → 0 < n * 128 + d
leads_on n d ds lead = ⊎_elim (λ some. omega arith) (λ first. omega (arith, first (omega arith))) lead

fits-continued : (n : ℕ) (ds : List ℕ) (x : ℕ) (rest : List ℕ) → x < 128 → number_from_digits_after 128 n ds < 2 ^ 121
    → Leads n ds → fits n (continued ds ++ (x ∷ rest)) ≡ fits 0 rest
fits-continued n [] x rest low small lead = fits-last n x rest small low
fits-continued n (d ∷ ds) x rest low small lead =
    let same : n * 128 + (128 + d - 128) ≡ n * 128 + d = omega arith in
    let some : 0 < n * 128 + d = leads_on n d ds lead in
    let below : n < 2 ^ 121 = omega (arith, number_after_ge 128 (n * 128 + d) ds (omega arith)) in
    fits-more n (128 + d) (continued ds ++ (x ∷ rest)) below (omega arith) (omega arith) ∙
    (ap (λ k. fits k (continued ds ++ (x ∷ rest))) same ∙ fits-continued (n * 128 + d) ds x rest low small (inl some))

lead_of : (n : ℕ) → 0 < length (digits_of 128 n) → 0 < get_or (digits_of 128 n) 0 0
lead_of zero some = absurd (omega (arith, some))
lead_of (suc m) some = first_digits_of 128 (suc m) (omega arith) (omega arith)

fits-subidentifier : (n : ℕ) (rest : List ℕ) → n < 2 ^ 128 → fits 0 (subidentifier_octets n ++ rest) ≡ fits 0 rest
fits-subidentifier n rest small =
    let low : n % 128 < 128 = omega arith in
    let high : number_from_digits 128 (digits_of 128 (n / 128)) < 2 ^ 121 =
    omega (arith, number_digits_of 128 (n / 128) (omega arith)) in
    ap (fits 0) (front_of n rest) ∙ fits-continued 0 (digits_of 128 (n / 128)) (n % 128) rest low high
    (inr (lead_of (n / 128)))

-- below 2 ^ 128, each of them
abbrev pub AreSmall : List ℕ → Type 0
AreSmall ss = AllByRecursion (λ subidentifier. subidentifier < 2 ^ 128) ss

fits-content_after : (ss rest : List ℕ) → AreSmall ss → fits 0 (oid_content ss ++ rest) ≡ fits 0 rest
fits-content_after [] rest small = refl
fits-content_after (s ∷ ss) rest small =
    ap (fits 0) (append_assoc (subidentifier_octets s) (oid_content ss) rest) ∙
    (fits-subidentifier s (oid_content ss ++ rest) small.0 ∙ fits-content_after ss rest small.1)

pub fits-content : (ss : List ℕ) → AreSmall ss → fits 0 (oid_content ss) ≡ true
fits-content ss small = ap (fits 0) (sym (append-nil (oid_content ss))) ∙ fits-content_after ss [] small

-- what was read is what was written

pub fits_parts : (n octet : ℕ) (octets : List ℕ) → fits n (octet ∷ octets) ≡ true → (n < 2 ^ 121)
    × (cond (ltb octet 128) (fits 0 octets) (ltb 0 (n * 128 + (octet - 128)) && fits (n * 128 + (octet - 128)) octets)
    ≡ true)
fits_parts n octet octets h =
    let parts = and_parts (ltb n (2 ^ 121)) (cond (ltb octet 128) (fits 0 octets)
    (ltb 0 (n * 128 + (octet - 128)) && fits (n * 128 + (octet - 128)) octets)) h in
    (ltb-true n (2 ^ 121) parts.0, parts.1)

pub fits_parts_more : (n octet : ℕ) (octets : List ℕ) → 128 ≤ octet → fits n (octet ∷ octets) ≡ true
    → (0 < n * 128 + (octet - 128)) × (fits (n * 128 + (octet - 128)) octets ≡ true)
fits_parts_more n octet octets high h =
    let parts = and_parts (ltb 0 (n * 128 + (octet - 128))) (fits (n * 128 + (octet - 128)) octets)
    (sym (cond-false (ltb octet 128) _ _ (le-ltb octet 128 high)) ∙ (fits_parts n octet octets h).1) in
    (ltb-true 0 (n * 128 + (octet - 128)) parts.0, parts.1)

pub fits_parts_last : (n octet : ℕ) (octets : List ℕ) → octet < 128 → fits n (octet ∷ octets) ≡ true
    → fits 0 octets ≡ true
fits_parts_last n octet octets low h = sym (cond-true (ltb octet 128) _ _ (lt-ltb octet 128 low))
    ∙ (fits_parts n octet octets h).1

one_more : (n octet : ℕ) → 128 ≤ octet → octet < 256 → 0 < n * 128 + (octet - 128)
    → continued (digits_of 128 (n * 128 + (octet - 128))) ≡ continued (digits_of 128 n) ++ octet ∷ []
one_more n octet high below some =
    let same : 128 + (octet - 128) ≡ octet = omega arith in
    ap continued (digits_of_push 128 n (octet - 128) (omega arith) (omega arith) some) ∙
    (map-append (λ d. 128 + d) (digits_of 128 n) ((octet - 128) ∷ [])
    ∙ ap (λ k. continued (digits_of 128 n) ++ k ∷ []) same)

last_of : (n octet : ℕ) → octet < 128
    → subidentifier_octets (n * 128 + octet) ≡ continued (digits_of 128 n) ++ octet ∷ []
last_of n octet low =
    subidentifier_octets-split (n * 128 + octet) ∙
    (ap (λ k. continued (digits_of 128 k) ++ (n * 128 + octet) % 128 ∷ []) (div-mul-add n 128 octet low) ∙
    ap (λ k. continued (digits_of 128 n) ++ k ∷ []) (mod-mul-add n 128 octet low))

content-after : (n : ℕ) (os : List ℕ) → AreOctets os → fits n os ≡ true
    → (oid_content (subidentifiers_after n os) ≡ continued (digits_of 128 n) ++ os)
    × AreSmall (subidentifiers_after n os)
content-after n [] octets h = (sym (ap (λ k. continued (digits_of 128 k) ++ []) (eqb-true n 0 h)), tt)
content-after n (octet ∷ os) octets h =
    ⊎_elim
    (λ low.
    let rest = content-after 0 os octets.1 (fits_parts_last n octet os low h) in
    let small = (fits_parts n octet os h).0 in (
      ap oid_content (subidentifiers_after-last n octet os low) ∙
          (ap (λ front. front ++ oid_content (subidentifiers_after 0 os)) (last_of n octet low) ∙
          (append_assoc (continued (digits_of 128 n)) (octet ∷ []) (oid_content (subidentifiers_after 0 os)) ∙
          ap (λ back. continued (digits_of 128 n) ++ (octet ∷ back)) rest.0)),
      subst AreSmall (sym (subidentifiers_after-last n octet os low)) (omega arith, rest.1),
    ))
    (λ high.
    let parts = fits_parts_more n octet os high h in
    let rest = content-after (n * 128 + (octet - 128)) os octets.1 parts.1 in (
      ap oid_content (subidentifiers_after-more n octet os high) ∙
          (rest.0 ∙
          (ap (λ front. front ++ os) (one_more n octet high octets.0 parts.0) ∙
          append_assoc (continued (digits_of 128 n)) (octet ∷ []) os)),
      subst AreSmall (sym (subidentifiers_after-more n octet os high)) rest.1,
    ))
    (cases_lt octet 128)

-- ---- the test

pub ReadsAsOid-from_fits : (os : List ℕ) → AreOctets os → fits 0 os ≡ true → 1 ≤ length (subidentifiers_of os)
    → length (subidentifiers_of os) ≤ 32 → ReadsAsOid os
unfolding subidentifiers_of
ReadsAsOid-from_fits os octets h some few =
    let rest = content-after 0 os octets h in
    record { oid = record { some = some; few = few; small = rest.1 }; same = rest.0 }

pub fits-from_ReadsAsOid : (os : List ℕ) → ReadsAsOid os → fits 0 os ≡ true
fits-from_ReadsAsOid os h = ap (fits 0) (sym h.same) ∙ fits-content (subidentifiers_of os) h.oid.small

pub ReadsAsOid-content : (ss : List ℕ) → IsOid ss → ReadsAsOid (oid_content ss)
ReadsAsOid-content ss h =
    let e = subidentifiers_of-content ss in
    record { oid = subst IsOid (sym e) h; same = ap oid_content e }

-- ---- the option

leb-decides : (m n : ℕ) → Decides (leb m n) (m ≤ n)
leb-decides m n = (leb-true m n, le-leb m n)

small_decides : (ss : List ℕ) → Decides (list_all (λ s. ltb s (2 ^ 128)) ss) (AreSmall ss)
small_decides [] = (λ _. tt, λ _. refl)
small_decides (s ∷ ss) = Decides-and (ltb s (2 ^ 128)) (list_all (λ s. ltb s (2 ^ 128)) ss) (Decides-ltb s (2 ^ 128))
    (small_decides ss)

pub is_oid-decides : (ss : List ℕ) → Decides (is_oid ss) (IsOid ss)
is_oid-decides ss =
    let both = Decides-and (leb 1 (length ss) && leb (length ss) 32) (list_all (λ s. ltb s (2 ^ 128)) ss)
    (Decides-and (leb 1 (length ss)) (leb (length ss) 32) (leb-decides 1 (length ss)) (leb-decides (length ss) 32))
    (small_decides ss) in
    (λ t. let p = both.0 t in record { some = p.0.0; few = p.0.1; small = p.1 }, λ h. both.1 ((h.some, h.few), h.small))

oid_of-decides : (os : List ℕ) → Decides (is_oid (subidentifiers_of os) && bytes_eq
    (oid_content (subidentifiers_of os)) os) (ReadsAsOid os)
oid_of-decides os =
    let both = Decides-and (is_oid (subidentifiers_of os)) (bytes_eq (oid_content (subidentifiers_of os)) os)
    (is_oid-decides (subidentifiers_of os)) (bytes_eq-Decides (oid_content (subidentifiers_of os)) os) in
    (λ t. let p = both.0 t in record { oid = p.0; same = p.1 }, λ h. both.1 (h.oid, h.same))

pub oid_of-contents : (os : List ℕ) → ReadsAsOid os → oid_of os ≡ Some (subidentifiers_of os)
unfolding oid_of
oid_of-contents os h = cond-true _ _ _ ((oid_of-decides os).1 h)

pub oid_of-others : (os : List ℕ) → (ReadsAsOid os → ⊥) → oid_of os ≡ None
unfolding oid_of
oid_of-others os h = cond-false _ _ _ (false_from_ne_true _ (λ t. h ((oid_of-decides os).0 t)))

pub oid_of-content : (ss : List ℕ) → IsOid ss → oid_of (oid_content ss) ≡ Some ss
oid_of-content ss h = oid_of-contents (oid_content ss) (ReadsAsOid-content ss h)
    ∙ ap Some (subidentifiers_of-content ss)

is_from_some : (os ss : List ℕ) (b : Bool) → Decides b (ReadsAsOid os)
    → cond b (Some (subidentifiers_of os)) None ≡ Some ss → IsOid ss × (os ≡ oid_content ss)
is_from_some os ss true decided e =
    let h = decided.0 refl in
    let same : subidentifiers_of os ≡ ss = cc in
    (subst IsOid same h.oid, sym h.same ∙ ap oid_content same)
is_from_some os ss false decided e = absurd (cc e)

pub oid_of-some : (os ss : List ℕ) → oid_of os ≡ Some ss → IsOid ss × (os ≡ oid_content ss)
unfolding oid_of
oid_of-some os ss e = is_from_some os ss _ (oid_of-decides os) e

-- ---- laws

pub same_from_content : (a b : List ℕ) → oid_content a ≡ oid_content b → a ≡ b
same_from_content a b e = sym (subidentifiers_of-content a) ∙ (ap subidentifiers_of e ∙ subidentifiers_of-content b)

pub octets-oid_content : (ss : List ℕ) → AreOctets (oid_content ss)
octets-oid_content [] = tt
octets-oid_content (s ∷ ss) = all-append (λ octet. octet < 256) (subidentifier_octets s) (oid_content ss)
    (octets-subidentifier_octets s) (octets-oid_content ss)

length-content : (ss : List ℕ) → AreSmall ss → length (oid_content ss) ≤ 19 * length ss
length-content [] small = omega arith
length-content (s ∷ ss) small =
    omega (
      arith,
      length-append (subidentifier_octets s) (oid_content ss),
      length-subidentifier_octets s small.0,
      length-content ss small.1,
    )

pub length-oid_content : (ss : List ℕ) → IsOid ss → length (oid_content ss) ≤ 19 * 32
length-oid_content ss h = omega (arith, length-content ss h.small, h.few)

some_content : (ss : List ℕ) → 1 ≤ length ss → 0 < length (oid_content ss)
some_content [] some = absurd (omega (arith, some))
some_content (s ∷ ss) some = omega (
  arith,
  length-append (subidentifier_octets s) (oid_content ss),
  some-subidentifier_octets s,
)

pub some-oid_content : (ss : List ℕ) → IsOid ss → 0 < length (oid_content ss)
some-oid_content ss h = some_content ss h.some

-- comparing contents is comparing subidentifiers
pub same_answer : (a b x y : List ℕ) (r : Bool) → x ≡ oid_content a → y ≡ oid_content b → r ≡ bytes_eq x y
    → r ≡ bytes_eq a b
same_answer a b x y r p q e =
    let at_contents = bytes_eq-Decides x y in
    let at_values = bytes_eq-Decides a b in
    e ∙
    same_from_decides {P = a ≡ b} (bytes_eq x y) (bytes_eq a b) (
      λ t. same_from_content a b (sym p ∙ (at_contents.0 t ∙ q)),
      λ same. at_contents.1 (p ∙ (ap oid_content same ∙ sym q)),
    )
    at_values

pub ReadsAsOid-written : (os ss : List ℕ) → IsOid ss → os ≡ oid_content ss → ReadsAsOid os
ReadsAsOid-written os ss h e = subst ReadsAsOid (sym e) (ReadsAsOid-content ss h)

pub subidentifiers_of-written : (os ss : List ℕ) → os ≡ oid_content ss → subidentifiers_of os ≡ ss
subidentifiers_of-written os ss e = ap subidentifiers_of e ∙ subidentifiers_of-content ss
