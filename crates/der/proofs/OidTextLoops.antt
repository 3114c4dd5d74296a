-- The loops over a text's numbers, and over the octets of which a text is written.
use Rattle.std.proofs.Common.{◌≡◌, ℕ, ◌+◌, ◌-◌, ◌*◌, ◌^◌, ◌<◌, ◌≤◌, true, List, [], ◌∷◌, ◌++◌, length, drop, get_or}
use Rattle.std.proofs.Common.{refl, sym, ap, subst, ◌∙◌, arith, append_assoc, length-append, false, Result, Ok, Err}
use Rattle.std.{proofs.Common.OnOk, specs.Result.is_ok, specs.List.flat_map}
use Rattle.std.proofs.lemmas.List.{append-nil, drop_more, flat_map_more, length_push}
use Rattle.der.specs.ObjectIdentifier.{ReadsAsOid, subidentifier_octets, oid_content, subidentifiers_after}
use Rattle.der.specs.ObjectIdentifier.{subidentifiers_of, decimal, dotted, first_arc, oid_text, AreOthers}
use Rattle.der.specs.ObjectIdentifier.{IsDottedNumberAt}
use Rattle.der.proofs.{DigitsElements.all-append, OidTexts.dotted_head, OidTexts.dotted_of}
use Rattle.der.proofs.OidContents.{AreSmall, fits, fits_parts_last, fits_parts_more, fits-from_ReadsAsOid}
use Rattle.der.proofs.OidContents.{subidentifiers_after-last, subidentifiers_after-more}

-- ---- reading

-- `read` is read of a text and, unless memory ran out, pushed onto the octets `old`; and no list with that text begins
-- otherwise
pub record IsPushed {E : Type 0} (pushed : Result (Unit {0}) E) (text old content rest : List ℕ)
    (left : ℕ) : Type 0 where
  pub read : List ℕ
  pub content_is : OnOk pushed (content ≡ old ++ oid_content read)
  pub text_is : text ≡ flat_map dotted read ++ rest
  pub count : length read + left ≡ 31
  pub small : AreSmall read
  pub only : (others : List ℕ) → AreOthers others → text ≡ flat_map dotted others → (later : List ℕ)
      × (others ≡ read ++ later) × (rest ≡ flat_map dotted later)

small_later : (read : List ℕ) (later : List ℕ) → AreSmall (read ++ later) → AreSmall later
small_later [] later h = h
small_later (s ∷ read) later h = small_later read later h.1

small_in : (others read later : List ℕ) → AreOthers others → others ≡ read ++ later → AreSmall later
small_in others read later are e = small_later read later (subst AreSmall e are.small)

abbrev Later : List ℕ → List ℕ → List ℕ → Type 0
Later others read rest = (later : List ℕ) × (others ≡ read ++ later) × (rest ≡ flat_map dotted later)

later_of : (others read later rest : List ℕ) (n : ℕ) (last : List ℕ) → AreSmall later → others ≡ read ++ later
    → rest ≡ flat_map dotted later → IsDottedNumberAt rest n last → Later others (read ++ n ∷ []) last
later_of others read [] rest n last small e at h =
    absurd (let none : [] ≡ 46 ∷ (decimal n ++ last) = sym at ∙ h.spelled in cc)
later_of others read (s ∷ later) rest n last small e at h =
    let head = dotted_head rest n last s later small.0 h at in
    (later, e ∙ (ap (λ k. read ++ (k ∷ later)) head.0 ∙ sym (append_assoc read (n ∷ []) later)), sym head.1)

-- the next is pushed where those before it were
pub content_more : {E : Type 0} (pushed next : Result (Unit {0}) E) (old content new read : List ℕ) (n : ℕ)
    → is_ok pushed ≡ true → OnOk pushed (content ≡ old ++ oid_content read)
    → OnOk next (new ≡ content ++ subidentifier_octets n) → OnOk next (new ≡ old ++ oid_content (read ++ n ∷ []))
content_more (Ok _) (Ok _) old content new read n ok before push =
    push ∙ (ap (λ k. k ++ subidentifier_octets n) before ∙ flat_map_more subidentifier_octets old read n)
content_more (Err _) (Ok _) old content new read n ok before push = absurd (cc ok)
content_more pushed (Err _) old content new read n ok before push = tt

pub content_lost : {E : Type 0} (pushed : Result (Unit {0}) E) (P : Type 0) → is_ok pushed ≡ false → OnOk pushed P
content_lost (Ok _) P lost = absurd (cc lost)
content_lost (Err _) P lost = tt

pub pushed_more : {E : Type 0} (pushed next : Result (Unit {0}) E) (text old content rest : List ℕ) (left left' n : ℕ)
    (last new : List ℕ) (h : IsPushed pushed text old content rest left) → IsDottedNumberAt rest n last
    → OnOk next (new ≡ old ++ oid_content (h.read ++ n ∷ [])) → left ≡ left' + 1
    → IsPushed next text old new last left'
pushed_more pushed next text old content rest left left' n last new h at push down = record {
  read = h.read ++ n ∷ [];
  content_is = push;
  text_is = h.text_is ∙
      (ap (λ k. flat_map dotted h.read ++ k) at.spelled ∙
      (sym (append_assoc (flat_map dotted h.read) (dotted n) last)
      ∙ ap (λ k. k ++ last) (flat_map_more dotted [] h.read n)));
  count = omega (arith, h.count, length_push h.read n);
  small = all-append (λ s. s < 2 ^ 128) h.read (n ∷ []) h.small (at.small, tt);
  only = λ others are e.
      let before = h.only others are e in
      later_of others h.read before.0 rest n last (small_in others h.read before.0 are before.1) before.1 before.2 at;
}

none_later : (others read later rest : List ℕ) → AreSmall later → rest ≡ flat_map dotted later → 0 < length rest
    → ((n : ℕ) (last : List ℕ) → IsDottedNumberAt rest n last → ⊥) → ⊥
none_later others read [] rest small at some none = omega (arith, ap length at)
none_later others read (s ∷ later) rest small at some none =
    none s (flat_map dotted later) (subst (λ t. IsDottedNumberAt t s (flat_map dotted later)) (sym at)
    (dotted_of s later small.0))

-- characters stand there, and no number after a dot
pub pushed_no_number : {E : Type 0} (pushed : Result (Unit {0}) E) (text old content rest : List ℕ) (left : ℕ)
    → IsPushed pushed text old content rest left
    → 0 < length rest → ((n : ℕ) (last : List ℕ) → IsDottedNumberAt rest n last → ⊥) → (others : List ℕ)
    → AreOthers others → text ≡ flat_map dotted others → ⊥
pushed_no_number pushed text old content rest left h some none others are e =
    let later = h.only others are e in
    none_later others h.read later.0 rest (small_in others h.read later.0 are later.1) later.2 some none

-- ---- writing

-- a text with further subidentifiers: the first of all gives two arcs
abbrev pub text_after : List ℕ → List ℕ → List ℕ
text_after [] ss = oid_text ss
text_after (c ∷ cs) ss = (c ∷ cs) ++ flat_map dotted ss

pub record IsWrittenSoFar (os text : List ℕ) (i n : ℕ) : Type 0 where
  pub readable : fits n (drop i os) ≡ true
  pub text_is : text_after text (subidentifiers_after n (drop i os)) ≡ oid_text (subidentifiers_of os)

pub written_none : (os text : List ℕ) → ReadsAsOid os → text ≡ [] → IsWrittenSoFar os text 0 0
unfolding subidentifiers_of
written_none os text h none =
    record { readable = fits-from_ReadsAsOid os h; text_is = ap (λ k. text_after k (subidentifiers_after 0 os)) none }

at_octet : (os : List ℕ) (i : ℕ) (c : ℕ) → i < length os → c ≡ get_or os i 0 → drop i os ≡ c ∷ drop (i + 1) os
at_octet os i c within at = drop_more os i 0 within ∙ ap (λ k. k ∷ drop (i + 1) os) (sym at)

readable_at : (os text : List ℕ) (i n c : ℕ) → i < length os → c ≡ get_or os i 0 → IsWrittenSoFar os text i n
    → fits n (c ∷ drop (i + 1) os) ≡ true
readable_at os text i n c within at h = sym (ap (fits n) (at_octet os i c within at)) ∙ h.readable

pub written_more : (os text : List ℕ) (i n c : ℕ) → i < length os → c ≡ get_or os i 0 → IsWrittenSoFar os text i n
    → 128 ≤ c → IsWrittenSoFar os text (i + 1) (n * 128 + (c - 128))
written_more os text i n c within at h high = record {
  readable = (fits_parts_more n c (drop (i + 1) os) high (readable_at os text i n c within at h)).1;
  text_is = sym (ap (text_after text) (ap (subidentifiers_after n) (at_octet os i c within at)
      ∙ subidentifiers_after-more n c (drop (i + 1) os) high)) ∙ h.text_is;
}

first_written : (s : ℕ) (ss : List ℕ) (c : ℕ) (cs : List ℕ)
    → decimal (first_arc s) ++ (dotted (s - 40 * first_arc s) ++ []) ≡ c ∷ cs
    → text_after (c ∷ cs) ss ≡ oid_text (s ∷ ss)
first_written s ss c cs e =
    ap (λ k. k ++ flat_map dotted ss) (sym e) ∙
    (append_assoc (decimal (first_arc s)) (dotted (s - 40 * first_arc s) ++ []) (flat_map dotted ss) ∙
    ap (λ k. decimal (first_arc s) ++ (k ++ flat_map dotted ss)) (append-nil (dotted (s - 40 * first_arc s))))

first_after : (s : ℕ) (ss text : List ℕ) → 0 < length text → text ≡ oid_text (s ∷ [])
    → text_after text ss ≡ oid_text (s ∷ ss)
first_after s ss [] some e = absurd (omega (arith, some))
first_after s ss (c ∷ cs) some e = first_written s ss c cs (sym e)

some_text : (s : ℕ) → 0 < length (oid_text (s ∷ []))
some_text s =
    omega (
      arith,
      length-append (decimal (first_arc s)) (dotted (s - 40 * first_arc s) ++ []),
      length-append (dotted (s - 40 * first_arc s)) [],
    )

written_last : (os text new : List ℕ) (i n c : ℕ) → i < length os → c ≡ get_or os i 0 → IsWrittenSoFar os text i n
    → c < 128 → ((ss : List ℕ) → text_after new ss ≡ text_after text ((n * 128 + c) ∷ ss))
    → IsWrittenSoFar os new (i + 1) 0
written_last os text new i n c within at h low same = record {
  readable = fits_parts_last n c (drop (i + 1) os) low (readable_at os text i n c within at h);
  text_is = same (subidentifiers_after 0 (drop (i + 1) os)) ∙
      (sym (ap (text_after text) (ap (subidentifiers_after n) (at_octet os i c within at)
      ∙ subidentifiers_after-last n c (drop (i + 1) os) low)) ∙ h.text_is);
}

after_none : (text new ss : List ℕ) (s : ℕ) → length text ≡ 0 → new ≡ text ++ oid_text (s ∷ [])
    → text_after new ss ≡ text_after text (s ∷ ss)
after_none [] new ss s none e =
    ap (λ k. text_after k ss) e ∙ first_after s ss (oid_text (s ∷ [])) (some_text s) refl
after_none (c ∷ cs) new ss s none e = absurd (omega (arith, none))

after_some : (text new ss : List ℕ) (s : ℕ) → 0 < length text → new ≡ text ++ dotted s
    → text_after new ss ≡ text_after text (s ∷ ss)
after_some [] new ss s some e = absurd (omega (arith, some))
after_some (c ∷ cs) new ss s some e = ap (λ k. text_after k ss) e
    ∙ append_assoc (c ∷ cs) (dotted s) (flat_map dotted ss)

pub written_first : (os text new : List ℕ) (i n c : ℕ) → i < length os → c ≡ get_or os i 0 → IsWrittenSoFar os text i n
    → c < 128 → length text ≡ 0 → new ≡ text ++ oid_text ((n * 128 + c) ∷ []) → IsWrittenSoFar os new (i + 1) 0
written_first os text new i n c within at h low none push =
    written_last os text new i n c within at h low (λ ss. after_none text new ss (n * 128 + c) none push)

pub written_other : (os text new : List ℕ) (i n c : ℕ) → i < length os → c ≡ get_or os i 0 → IsWrittenSoFar os text i n
    → c < 128 → 0 < length text → new ≡ text ++ dotted (n * 128 + c) → IsWrittenSoFar os new (i + 1) 0
written_other os text new i n c within at h low some push =
    written_last os text new i n c within at h low (λ ss. after_some text new ss (n * 128 + c) some push)

-- the same so far, under other names
pub written_as : (os text text' : List ℕ) (i n n' : ℕ) → text ≡ text' → n ≡ n' → IsWrittenSoFar os text' i n'
    → IsWrittenSoFar os text i n
written_as os text text' i n n' e f h =
    subst (λ t. IsWrittenSoFar os t i n) (sym e) (subst (λ k. IsWrittenSoFar os text' i k) (sym f) h)
