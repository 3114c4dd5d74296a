-- Texts of object identifiers, written and read.
use Rattle.std.proofs.Common.{◌≡◌, ℕ, ◌+◌, ◌-◌, ◌*◌, ◌/◌, ◌%◌, ◌^◌, ◌<◌, ◌≤◌, List, [], ◌∷◌, ◌++◌, refl, sym, ap, subst}
use Rattle.std.proofs.Common.{◌∙◌, inl, lit<, arith, append_assoc, Result, Ok, Err, OnOk, if◌then◌else◌}
use Rattle.std.specs.{Result.is_ok, List.flat_map, Int.Digits.digits_of}
use Rattle.std.proofs.lemmas.{Bool.Decides.nat_tests, List.map-append, Int.Digits.digits_of_step}
use Rattle.der.specs.ObjectIdentifier.{IsOid, ReadsAsOid, subidentifiers_of, subidentifier_octets, oid_content, decimal}
use Rattle.der.specs.ObjectIdentifier.{dotted, first_arc, oid_text, AreOthers, IsNumberAt, IsDottedNumberAt}
use Rattle.der.specs.ObjectIdentifier.{BeginsWithoutDigit}
use Rattle.der.proofs.OidContents.{continued, subidentifier_octets-split, AreSmall, ReadsAsOid-written}
use Rattle.der.proofs.{OidContents.subidentifiers_of-written, OidNumbers.same_number}

-- ---- octets pushed

pub continued_more : (old mid new : List ℕ) (n : ℕ) → 0 < n → mid ≡ old ++ continued (digits_of 128 (n / 128))
    → new ≡ mid ++ (128 + n % 128) ∷ [] → new ≡ old ++ continued (digits_of 128 n)
continued_more old mid new n some front last =
    last ∙
    (ap (λ k. k ++ (128 + n % 128) ∷ []) front ∙
    (append_assoc old (continued (digits_of 128 (n / 128))) ((128 + n % 128) ∷ []) ∙
    ap (λ k. old ++ k) (sym (ap continued (digits_of_step 128 n (omega arith) some)
    ∙ map-append (λ digit. 128 + digit) (digits_of 128 (n / 128)) (n % 128 ∷ [])))))

pub subidentifier_ends : (old mid new : List ℕ) (n : ℕ) → mid ≡ old ++ continued (digits_of 128 (n / 128))
    → new ≡ mid ++ n % 128 ∷ [] → new ≡ old ++ subidentifier_octets n
subidentifier_ends old mid new n front last =
    last ∙
    (ap (λ k. k ++ n % 128 ∷ []) front ∙
    (append_assoc old (continued (digits_of 128 (n / 128))) (n % 128 ∷ [])
    ∙ ap (λ k. old ++ k) (sym (subidentifier_octets-split n))))

-- ---- characters pushed

-- r answers a push of the octets `last`
pushed : {E : Type 0} (r : Result (Unit {0}) E) (old new last whole : List ℕ)
    → new ≡ (if is_ok r then old ++ last else old) → old ++ last ≡ whole → OnOk r (new ≡ whole)
pushed (Ok _) old new last whole e w = e ∙ w
pushed (Err _) old new last whole e w = tt

pub decimal_pushed : {E : Type 0} (r : Result (Unit {0}) E) (old mid new front encoded : List ℕ) (n c : ℕ)
    → c ≡ 48 + n % 10 → (c < 128 → encoded ≡ c ∷ []) → new ≡ (if is_ok r then mid ++ encoded else mid)
    → mid ≡ old ++ front → decimal n ≡ front ++ (48 + n % 10) ∷ [] → OnOk r (new ≡ old ++ decimal n)
decimal_pushed r old mid new front encoded n c is ascii push before whole =
    pushed r mid new encoded (old ++ decimal n) push
    (ap (λ k. mid ++ k) (ascii (omega (arith, is)) ∙ ap (λ k. k ∷ []) is) ∙
    (ap (λ k. k ++ (48 + n % 10) ∷ []) before
    ∙ (append_assoc old front ((48 + n % 10) ∷ []) ∙ ap (λ k. old ++ k) (sym whole))))

-- ---- the arcs of the first subidentifier

first_arc_le : (s : ℕ) → 40 * first_arc s ≤ s
first_arc_le s = grind (arith, nat_tests)

same_first : (s t : ℕ) → first_arc s ≡ first_arc t → s - 40 * first_arc s ≡ t - 40 * first_arc t → s ≡ t
same_first s t arcs rest = omega (arith, first_arc_le s, first_arc_le t, arcs, rest)

-- ---- one text of one list

dotted_ends : (ss : List ℕ) → BeginsWithoutDigit (flat_map dotted ss)
dotted_ends [] = tt
dotted_ends (s ∷ ss) = inl (lit< tt)

number_of : (n : ℕ) (ss : List ℕ) → n < 2 ^ 128 → IsNumberAt (decimal n ++ flat_map dotted ss) n (flat_map dotted ss)
number_of n ss small = record { spelled = refl; small = small; ends = dotted_ends ss }

-- the list's head, where its dotted text has a number in front
pub dotted_head : (text : List ℕ) (n : ℕ) (rest : List ℕ) (s : ℕ) (ss : List ℕ) → s < 2 ^ 128
    → IsDottedNumberAt text n rest → text ≡ flat_map dotted (s ∷ ss) → (s ≡ n) × (flat_map dotted ss ≡ rest)
dotted_head text n rest s ss small h e =
    let both : 46 ∷ (decimal s ++ flat_map dotted ss) ≡ 46 ∷ (decimal n ++ rest) = sym e ∙ h.spelled in
    let same : decimal s ++ flat_map dotted ss ≡ decimal n ++ rest = cc in
    same_number (decimal s ++ flat_map dotted ss) s n (flat_map dotted ss) rest (number_of s ss small)
    (record { spelled = same; small = h.small; ends = h.ends })

pub dotted_of : (s : ℕ) (ss : List ℕ) → s < 2 ^ 128 → IsDottedNumberAt (flat_map dotted (s ∷ ss)) s (flat_map dotted ss)
dotted_of s ss small = record { spelled = refl; small = small; ends = dotted_ends ss }

same_from_dotted : (xs ys : List ℕ) → AreSmall xs → AreSmall ys → flat_map dotted xs ≡ flat_map dotted ys → xs ≡ ys
same_from_dotted [] [] p q e = refl
same_from_dotted [] (y ∷ ys) p q e = absurd (cc e)
same_from_dotted (x ∷ xs) [] p q e = absurd (cc e)
same_from_dotted (x ∷ xs) (y ∷ ys) p q e =
    let head = dotted_head (flat_map dotted (x ∷ xs)) x (flat_map dotted xs) y ys q.0 (dotted_of x xs p.0) e in
    let same : x ≡ y = sym head.0 in
    let rest : xs ≡ ys = same_from_dotted xs ys p.1 q.1 (sym head.1) in
    cc

-- ---- the first two numbers of a text

first_number : (s : ℕ) (ss : List ℕ) → s < 2 ^ 128
    → IsNumberAt (oid_text (s ∷ ss)) (first_arc s) (flat_map dotted ((s - 40 * first_arc s) ∷ ss))
first_number s ss small = record { spelled = refl; small = omega (arith, first_arc_le s); ends = inl (lit< tt) }

second_number : (s : ℕ) (ss : List ℕ) → s < 2 ^ 128
    → IsDottedNumberAt (flat_map dotted ((s - 40 * first_arc s) ∷ ss)) (s - 40 * first_arc s) (flat_map dotted ss)
second_number s ss small = dotted_of (s - 40 * first_arc s) ss (omega arith)

-- what the first two numbers of a text say of a list with that text
pub record IsHeadOf (s : ℕ) (ss : List ℕ) (first second : ℕ) (rest : List ℕ) : Type 0 where
  pub first_is : first_arc s ≡ first
  pub second_is : s - 40 * first_arc s ≡ second
  pub rest_is : rest ≡ flat_map dotted ss

after_first : (text : List ℕ) (first : ℕ) (rest : List ℕ) (s : ℕ) (ss : List ℕ) → s < 2 ^ 128 → text ≡ oid_text (s ∷ ss)
    → IsNumberAt text first rest → (first_arc s ≡ first) × (rest ≡ flat_map dotted ((s - 40 * first_arc s) ∷ ss))
after_first text first rest s ss small e h =
    let same = same_number text (first_arc s) first (flat_map dotted ((s - 40 * first_arc s) ∷ ss)) rest
    (subst (λ t. IsNumberAt t (first_arc s) (flat_map dotted ((s - 40 * first_arc s) ∷ ss))) (sym e)
    (first_number s ss small)) h in
    (same.0, sym same.1)

head_of : (text : List ℕ) (first : ℕ) (rest : List ℕ) (second : ℕ) (last : List ℕ) (s : ℕ) (ss : List ℕ) → s < 2 ^ 128
    → text ≡ oid_text (s ∷ ss) → IsNumberAt text first rest → IsDottedNumberAt rest second last
    → IsHeadOf s ss first second last
head_of text first rest second last s ss small e h k =
    let front = after_first text first rest s ss small e h in
    let back = dotted_head rest second last (s - 40 * first_arc s) ss (omega arith) k front.1 in
    record { first_is = front.0; second_is = back.0; rest_is = sym back.1 }

-- ---- refusals: a text of an object identifier has each part

pub has_first : (text ss : List ℕ) → IsOid ss → text ≡ oid_text ss
    → ((n : ℕ) (rest : List ℕ) → IsNumberAt text n rest → ⊥) → ⊥
has_first text [] oid e none = absurd (omega (arith, oid.some))
has_first text (s ∷ ss) oid e none =
    none (first_arc s) (flat_map dotted ((s - 40 * first_arc s) ∷ ss))
    (subst (λ t. IsNumberAt t (first_arc s) (flat_map dotted ((s - 40 * first_arc s) ∷ ss))) (sym e)
    (first_number s ss oid.small.0))

pub has_second : (text ss : List ℕ) (first : ℕ) (rest : List ℕ) → IsOid ss → text ≡ oid_text ss
    → IsNumberAt text first rest → ((n : ℕ) (last : List ℕ) → IsDottedNumberAt rest n last → ⊥) → ⊥
has_second text [] first rest oid e h none = absurd (omega (arith, oid.some))
has_second text (s ∷ ss) first rest oid e h none =
    let front = after_first text first rest s ss oid.small.0 e h in
    none (s - 40 * first_arc s) (flat_map dotted ss)
    (subst (λ t. IsDottedNumberAt t (s - 40 * first_arc s) (flat_map dotted ss)) (sym front.1)
    (second_number s ss oid.small.0))

pub has_arcs : (text ss : List ℕ) (first : ℕ) (rest : List ℕ) (second : ℕ) (last : List ℕ) → IsOid ss
    → text ≡ oid_text ss → IsNumberAt text first rest → IsDottedNumberAt rest second last
    → ((s : ℕ) → s < 2 ^ 128 → first_arc s ≡ first → s - 40 * first_arc s ≡ second → ⊥) → ⊥
has_arcs text [] first rest second last oid e h k none = absurd (omega (arith, oid.some))
has_arcs text (s ∷ ss) first rest second last oid e h k none =
    let head = head_of text first rest second last s ss oid.small.0 e h k in
    none s oid.small.0 head.first_is head.second_is

others_of : (s : ℕ) (ss : List ℕ) → IsOid (s ∷ ss) → AreOthers ss
others_of s ss oid = record { few = omega (arith, oid.few); small = oid.small.1 }

pub has_others : (text ss : List ℕ) (first : ℕ) (rest : List ℕ) (second : ℕ) (last : List ℕ) → IsOid ss
    → text ≡ oid_text ss → IsNumberAt text first rest → IsDottedNumberAt rest second last
    → ((others : List ℕ) → AreOthers others → last ≡ flat_map dotted others → ⊥) → ⊥
has_others text [] first rest second last oid e h k none = absurd (omega (arith, oid.some))
has_others text (s ∷ ss) first rest second last oid e h k none =
    none ss (others_of s ss oid) (head_of text first rest second last s ss oid.small.0 e h k).rest_is

-- ---- what the parts make

pub record IsParsed (text : List ℕ) (s : ℕ) (others : List ℕ) : Type 0 where
  pub oid : IsOid (s ∷ others)
  pub spelled : text ≡ oid_text (s ∷ others)

pub parsed : (text : List ℕ) (first : ℕ) (rest : List ℕ) (second : ℕ) (last : List ℕ) (s : ℕ) (others : List ℕ)
    → IsNumberAt text first rest → IsDottedNumberAt rest second last → s < 2 ^ 128 → first_arc s ≡ first
    → s - 40 * first_arc s ≡ second → AreOthers others → last ≡ flat_map dotted others → IsParsed text s others
parsed text first rest second last s others h k small a b are e = record {
  oid = record { some = omega arith; few = omega (arith, are.few); small = (small, are.small) };
  spelled = h.spelled ∙
      (ap (λ back. decimal first ++ back) (k.spelled ∙ ap (λ back. dotted second ++ back) e) ∙
      sym (ap (λ n. decimal n ++ (dotted (s - 40 * first_arc s) ++ flat_map dotted others)) a
      ∙ ap (λ n. decimal first ++ (dotted n ++ flat_map dotted others)) b));
}

pub same_from_text : (a b : List ℕ) → IsOid a → IsOid b → oid_text a ≡ oid_text b → a ≡ b
same_from_text [] b p q e = absurd (omega (arith, p.some))
same_from_text (s ∷ ss) [] p q e = absurd (omega (arith, q.some))
same_from_text (s ∷ ss) (t ∷ ts) p q e =
    let head = head_of (oid_text (s ∷ ss)) (first_arc s) (flat_map dotted ((s - 40 * first_arc s) ∷ ss))
    (s - 40 * first_arc s) (flat_map dotted ss) t ts q.small.0 e (first_number s ss p.small.0)
    (second_number s ss p.small.0) in
    let same : s ≡ t = same_first s t (sym head.first_is) (sym head.second_is) in
    let rest : ss ≡ ts = same_from_dotted ss ts p.small.1 q.small.1 head.rest_is in
    cc

-- a text that is read, and the octets that are made of it
pub record IsMade (text content : List ℕ) : Type 0 where
  pub made : List ℕ
  pub oid : IsOid made
  pub spelled : text ≡ oid_text made
  pub written : content ≡ oid_content made

pub made_of : (text seen : List ℕ) (first : ℕ) (rest : List ℕ) (second : ℕ) (last : List ℕ) (s : ℕ)
    (others content : List ℕ) → seen ≡ text → IsNumberAt seen first rest → IsDottedNumberAt rest second last
    → s < 2 ^ 128 → first_arc s ≡ first → s - 40 * first_arc s ≡ second → AreOthers others
    → last ≡ flat_map dotted others → content ≡ oid_content (s ∷ others) → IsMade text content
made_of text seen first rest second last s others content same h k small a b are e written =
    let is = parsed seen first rest second last s others h k small a b are e in
    record { made = s ∷ others; oid = is.oid; spelled = sym same ∙ is.spelled; written = written }

pub ReadsAsOid-made : (text content : List ℕ) → IsMade text content → ReadsAsOid content
ReadsAsOid-made text content h = ReadsAsOid-written content h.made h.oid h.written

pub made-found : (text content : List ℕ) → IsMade text content → IsOid (subidentifiers_of content)
    × (text ≡ oid_text (subidentifiers_of content))
made-found text content h =
    let v = subidentifiers_of-written content h.made h.written in
    (subst IsOid (sym v) h.oid, h.spelled ∙ ap oid_text (sym v))

pub made-only : (text content ss : List ℕ) → IsMade text content → IsOid ss → text ≡ oid_text ss
    → subidentifiers_of content ≡ ss
made-only text content ss h oid e =
    subidentifiers_of-written content h.made h.written ∙ same_from_text h.made ss h.oid oid (sym h.spelled ∙ e)
