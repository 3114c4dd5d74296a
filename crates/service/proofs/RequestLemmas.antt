-- What is kept of a request, and what is due to it.
use Rattle.std.proofs.Common.{◌≡◌, ◌∙◌, ℕ, ◌+◌, ◌<◌, ◌≤◌, Bool, true, false, ◌&&◌, not, List, ◌++◌, length, take, drop}
use Rattle.std.proofs.Common.{ap, subst, arith, inl, inr, length-drop, length-take-le, ltb, refl, sym}
use Rattle.std.proofs.lemmas.Bool.{cases_lt, lt-ltb, le-ltb, ltb-true}
use Rattle.std.proofs.lemmas.List.{take-append-drop}
use Rattle.httparse.specs.{Grammar.print_request, declared.spans.HeaderSpan.HeaderSpan}
use Rattle.service.specs.Known.{IsBehind, IsDue, IsKept, IsParsed, IsRefused, is_wanting, received}
use Rattle.service.specs.Known.{IsAnswerable, taken_of, out_of_memory_for_body}
use Rattle.service.specs.Received.{IsPartial, in_head, is_open}
use Rattle.service.specs.{Heads.head_value, Views.IsInPlace, Views.head_view, declared.head.Head.Head}
use Rattle.service.specs.{declared.known.Known.Known, declared.known.Parsed.Parsed, declared.refusal.Refusal.Refusal}
use Rattle.service.specs.declared.due.Due.TheVariants as due
use Rattle.service.specs.declared.known.Known.TheVariants as known
use Rattle.service.specs.declared.refusal.Refusal.TheVariants as refusal
use Rattle.service.proofs.KnownLemmas.{behind_head, has_head, head_octets, no_octets, parsed_more, partial_body}
use Rattle.service.proofs.KnownLemmas.{take_less}

and_true : (a : Bool) → a ≡ (a && true)
and_true true = refl
and_true false = refl

-- a test that holds isn't false
lost : (a b : Bool) → a ≡ true → b ≡ false → a ≡ b → ⊥
lost a b holds fails same = cc

-- what is open wants octets, and its input hasn't ended
pub open_parts : (wanting is_ended : Bool) → (wanting && not is_ended) ≡ true
    → (wanting ≡ true) × (is_ended ≡ false)
open_parts true true opens = cc
open_parts true false opens = (refl, refl)
open_parts false true opens = cc
open_parts false false opens = cc

-- octets of a body come
pub kept_more : (before after : List ℕ) (headers : List HeaderSpan) (filled count : ℕ) (k : Known)
    → IsKept before headers filled k → (k ≡ known.Open → ⊥) → is_wanting k filled ≡ true → (got : List ℕ)
    → take (filled + count) after ≡ take filled before ++ got → length after ≡ length before
    → filled + count ≤ length before → IsKept after headers (filled + count) k
kept_more before after headers filled count known.Open kept parsed wanting got fills same within = absurd (parsed refl)
kept_more before after headers filled count (known.Parsed parsed) kept not_open wanting got fills same within =
    let less : filled < parsed.size = ltb-true filled parsed.size wanting in
    let P : List ℕ → Type 0 = λ l. IsParsed l headers parsed in
    record {
      within = omega (arith, same, within);
      few = omega (arith, same, kept.few);
      is = subst P (sym fills) (parsed_more (take filled before) got headers parsed kept.is);
      short = kept.short;
      left = λ some. omega (arith, same, kept.left less);
    }
kept_more before after headers filled count (known.Refused refused) kept parsed wanting got fills same within = cc

-- one more octet of a head leaves none behind the request
pub exact_head : (room : List ℕ) (headers : List HeaderSpan) (filled all : ℕ) (k : Known) (is_ended : Bool)
    → IsKept room headers all k → all ≡ filled + 1 → IsBehind filled k → is_ended ≡ false
    → is_open (received room all k is_ended) ≡ false → taken_of k all is_ended ≡ length (take all room)
exact_head room headers filled all known.Open true kept one behind goes closed = cc
exact_head room headers filled all known.Open false kept one behind goes closed = cc
exact_head room headers filled all (known.Parsed parsed) true kept one behind goes closed = cc
exact_head room headers filled all (known.Parsed parsed) false kept one behind goes closed =
    elim (cases_lt all parsed.size) [
      | inl less ↦ absurd (lost (ltb all parsed.size) (ltb all parsed.size && true) (lt-ltb all parsed.size less) closed (and_true (ltb all parsed.size)))
      | inr more ↦ rw (le-ltb all parsed.size more)
          (omega (arith, more, one, behind, kept.short, length-take-le all room kept.within))
    ]
exact_head room headers filled all (known.Refused refused) is_ended kept one behind goes closed =
    omega (arith, one, behind, kept.is.within, length-take-le all room kept.within)

-- and a beginning of a request came
pub kept_partial : (room : List ℕ) (headers : List HeaderSpan) (filled : ℕ) (k : Known) → IsKept room headers filled k
    → is_wanting k filled ≡ true → IsPartial (take filled room)
kept_partial room headers filled known.Open kept wanting = in_head kept.is
kept_partial room headers filled (known.Parsed parsed) kept wanting =
    let less : filled < parsed.size = ltb-true filled parsed.size wanting in
    partial_body (take filled room) headers parsed kept.is (omega (arith, less, length-take-le filled room kept.within))
kept_partial room headers filled (known.Refused refused) kept wanting = cc

-- a body to which octets are wanting
pub due_in_body : (room : List ℕ) (headers : List HeaderSpan) (filled : ℕ) (parsed : Parsed) (is_ended : Bool)
    (f : Refusal) → IsKept room headers filled (known.Parsed parsed) → filled < parsed.size
    → (is_ended ≡ true → f ≡ refusal.BadRequest) → (is_ended ≡ false → f ≡ refusal.Unavailable)
    → IsDue (received room filled (known.Parsed parsed) is_ended) (due.Refusal f)
due_in_body room headers filled parsed true f kept less ended wanting =
    let octets = take filled room in
    let is = kept.is in
    let test : ltb filled parsed.size ≡ true = lt-ltb filled parsed.size less in
    let count = length-take-le filled room kept.within in
    inr (
      record {
        ended = refl;
        all = rw test (sym count);
        some = λ none. no_octets is.begins.read (drop parsed.spans.len octets) (
          is.begins.at.reads.0,
          sym none ∙ behind_head octets parsed.seen is.seen headers parsed.spans is.begins,
        );
        partial = partial_body octets headers parsed is (omega (arith, less, count));
      },
      ended refl,
    )
due_in_body room headers filled parsed false f kept less ended wanting =
    let octets = take filled room in
    let is = kept.is in
    let test : ltb filled parsed.size ≡ true = lt-ltb filled parsed.size less in
    let P : ℕ → Type 0 = λ n. IsRefused (take n octets) f in
    let taken : taken_of (known.Parsed parsed) filled false ≡ parsed.spans.len = rw test in
    inl (subst P (sym taken)
    (out_of_memory_for_body is.begins.read is.begins.head is.asked is.wanted
    (omega (arith, less, is.size, has_head octets headers parsed is, length-take-le filled room kept.within))
    (head_octets octets parsed.seen is.seen headers parsed.spans is.begins) (wanting refl)))

-- a whole request
pub due_whole : (room : List ℕ) (headers : List HeaderSpan) (filled : ℕ) (parsed : Parsed) (is_ended : Bool)
    (kept : IsKept room headers filled (known.Parsed parsed)) → parsed.size ≤ filled → (head : Head) (body : List ℕ)
    → head_view head ≡ head_value kept.is.begins.read → IsInPlace head
    → body ≡ drop parsed.spans.len (take parsed.size (take filled room))
    → IsAnswerable (take (taken_of (known.Parsed parsed) filled is_ended) (take filled room)) parsed.action head body
due_whole room headers filled parsed is_ended kept more head body same in_place is_body =
    let octets = take filled room in
    let is = kept.is in
    let whole = take parsed.size octets in
    let count = length-take-le filled room kept.within in
    let long : length whole ≡ parsed.size = length-take-le parsed.size octets (omega (arith, more, count)) in
    let taken : taken_of (known.Parsed parsed) filled is_ended ≡ parsed.size = rw (le-ltb filled parsed.size more) in
    let front : take parsed.spans.len whole ≡ print_request is.begins.read =
    take_less parsed.spans.len parsed.size octets (omega (arith, is.size)) (omega (arith, more, count))
    ∙ head_octets octets parsed.seen is.seen headers parsed.spans is.begins in
    record {
      read = is.begins.read;
      is_head = is.begins.head;
      same = same;
      in_place = in_place;
      asked = is.asked;
      wanted = is.wanted;
      action_is = is.action;
      count = omega (arith, ap length is_body, long, is.size, length-drop parsed.spans.len whole);
      split = ap (λ n. take n octets) taken ∙ sym (take-append-drop parsed.spans.len whole)
          ∙ ap (λ l. l ++ drop parsed.spans.len whole) front
          ∙ ap (λ l. print_request is.begins.read ++ l) (sym is_body);
    }
