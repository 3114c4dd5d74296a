-- Frames that go out and come in piece by piece.
use Rattle.std.proofs.Common.{◌≡◌, ℕ, suc, ◌+◌, ◌<◌, ◌≤◌, ◌^◌, List, ◌++◌, Option, length, map, take, drop, refl, sym}
use Rattle.std.proofs.Common.{ap, ◌∙◌, subst, append_assoc, arith, drop-cons, slice_index_or}
use Rattle.std.specs.{List.AllByRecursion, Io.KnownBytes.Consumes, Int.to_be_bytes, Int.from_be_bytes, Int.w32}
use Rattle.std.proofs.{KnownBytes.Consumes-trans, Math.Seq.take-append_seam, Math.Seq.drop-append_seam}
use Rattle.std.proofs.lemmas.{List.length-append, List.append-nil, List.drop_all, Nat.from_be_bytes-to_be_bytes_4}
use Rattle.cms.specs.Framed.{frame, frames, IsShort, IsAnswer, ReceivesNoAnswer}

pub frame_is : (octets : List ℕ) → frame octets ≡ to_be_bytes w32 (length octets) ++ octets
unfolding frame
frame_is octets = refl

pub length-frame : (octets : List ℕ) → length (frame octets) ≡ 4 + length octets
length-frame octets = ap length (frame_is octets) ∙ length-append (to_be_bytes w32 (length octets)) octets

-- a frame behind octets
pub frame_behind : (octets header text first second : List ℕ) → header ≡ to_be_bytes w32 (length text)
    → first ≡ octets ++ header → second ≡ first ++ text → second ≡ octets ++ frame text
frame_behind octets header text first second told one other =
    other ∙ ap (λ front. front ++ text) (one ∙ ap (λ h. octets ++ h) told)
    ∙ append_assoc octets (to_be_bytes w32 (length text)) text ∙ ap (λ f. octets ++ f) (sym (frame_is text))

-- the next of some frames
pub next_frame : {T : Type 0} (f : T → List ℕ) (texts : List T) (i : ℕ) (d : T) (octets more whole : List ℕ)
    → i < length texts → octets ++ frames (map f (drop i texts)) ≡ whole
    → more ≡ octets ++ frame (f (slice_index_or texts i d)) → more ++ frames (map f (drop (i + 1) texts)) ≡ whole
next_frame f texts i d octets more whole within before grown =
    let text = f (slice_index_or texts i d) in
    let on : suc i ≡ i + 1 = omega arith in
    let split : frames (map f (drop i texts)) ≡ frame text ++ frames (map f (drop (i + 1) texts)) =
    ap (λ ts. frames (map f ts)) (drop-cons texts i d within)
    ∙ ap (λ j. frame text ++ frames (map f (drop j texts))) on in
    ap (λ front. front ++ frames (map f (drop (i + 1) texts))) grown
    ∙ append_assoc octets (frame text) (frames (map f (drop (i + 1) texts)))
    ∙ ap (λ rest. octets ++ rest) (sym split) ∙ before

pub short_next : {T : Type 0} (f : T → List ℕ) (texts : List T) (i : ℕ) (d : T) → i < length texts
    → length (f (slice_index_or texts i d)) < 2 ^ 32 → AllByRecursion IsShort (map f (drop (i + 1) texts))
    → AllByRecursion IsShort (map f (drop i texts))
short_next f texts i d within short rest =
    let on : i + 1 ≡ suc i = omega arith in
    subst (λ ts. AllByRecursion IsShort (map f ts)) (sym (drop-cons texts i d within))
    (short, subst (λ j. AllByRecursion IsShort (map f (drop j texts))) on rest)

-- there is no other
pub last_frame : {T : Type 0} (f : T → List ℕ) (texts : List T) (i : ℕ) (octets whole : List ℕ) → length texts ≤ i
    → octets ++ frames (map f (drop i texts)) ≡ whole → octets ≡ whole
last_frame f texts i octets whole none before =
    sym (append-nil octets) ∙ ap (λ ts. octets ++ frames (map f ts)) (sym (drop_all i texts none)) ∙ before

-- an answer's frame has at least five octets
too_short : (received answer rest : List ℕ) → length received < 5 → IsAnswer answer → received ≡ frame answer ++ rest
    → ⊥
too_short received answer rest short is same =
    absurd (omega (arith, is.some, short, ap length same, length-append (frame answer) rest, length-frame answer))

pub receives_too_few : (u v : Option (List ℕ)) (received : List ℕ) → length received < 5 → Consumes u v received
    → ReceivesNoAnswer u v
receives_too_few u v received short taken = record {
  received = received;
  few = omega (arith, short);
  no_answer = λ answer rest is same. too_short received answer rest short is same;
  taken = taken;
}

-- the frames of answers begin with how many octets follow
cut_answer : (count : ℕ) (part answer rest : List ℕ) → count < 2 ^ 32 → length part < count → IsAnswer answer
    → to_be_bytes w32 count ++ part ≡ frame answer ++ rest → ⊥
cut_answer count part answer rest fits short is same =
    let header = to_be_bytes w32 (length answer) in
    let regrouped : to_be_bytes w32 count ++ part ≡ header ++ (answer ++ rest) =
    same ∙ ap (λ front. front ++ rest) (frame_is answer) ∙ append_assoc header answer rest in
    let headers : to_be_bytes w32 count ≡ header =
    sym (take-append_seam (to_be_bytes w32 count) part) ∙ ap (take 4) regrouped
    ∙ take-append_seam header (answer ++ rest) in
    let parts : part ≡ answer ++ rest = sym (drop-append_seam (to_be_bytes w32 count) part) ∙ ap (drop 4) regrouped
    ∙ drop-append_seam header (answer ++ rest) in
    let counts : count ≡ length answer = sym (from_be_bytes-to_be_bytes_4 count fits) ∙ ap (from_be_bytes w32) headers
    ∙ from_be_bytes-to_be_bytes_4 (length answer) (omega (arith, is.few)) in
    absurd (omega (arith, counts, short, ap length parts, length-append answer rest))

pub receives_part : (u v w : Option (List ℕ)) (count : ℕ) (part : List ℕ) → count ≤ 4096 → length part < count
    → Consumes u v (to_be_bytes w32 count) → Consumes v w part → ReceivesNoAnswer u w
receives_part u v w count part few short first second = record {
  received = to_be_bytes w32 count ++ part;
  few = omega (arith, few, short, length-append (to_be_bytes w32 count) part);
  no_answer = λ answer rest is same. cut_answer count part answer rest (omega (arith, few)) short is same;
  taken = Consumes-trans u v w (to_be_bytes w32 count) part first second;
}

pub receives_frame : (u v w : Option (List ℕ)) (count : ℕ) (answer : List ℕ) → length answer ≡ count
    → Consumes u v (to_be_bytes w32 count) → Consumes v w answer → Consumes u w (frame answer)
receives_frame u v w count answer same first second =
    let P : List ℕ → Type 0 = λ taken. Consumes u w taken in
    let whole : to_be_bytes w32 count ++ answer ≡ frame answer =
    ap (λ n. to_be_bytes w32 n ++ answer) (sym same) ∙ sym (frame_is answer) in
    subst P whole (Consumes-trans u v w (to_be_bytes w32 count) answer first second)

pub ruleset receiving_laws = (receives_too_few, receives_part, receives_frame)
