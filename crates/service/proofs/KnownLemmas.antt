-- Octets that begin with a head, or with none.
use Rattle.std.proofs.Common.{◌≡◌, ◌∙◌, ℕ, ◌+◌, ◌<◌, ◌≤◌, List, [], ◌∷◌, ◌++◌, All, length, take, drop, refl, sym}
use Rattle.std.proofs.Common.{ap, subst, append-nil, length-append, length-take-le, length-drop, arith, inl}
use Rattle.std.proofs.lemmas.List.{take-append-drop, take-append-le, take_all, take_at, length-take, length-map}
use Rattle.std.proofs.{Common.Bool, Common.true, Common.false, Common.Ok, Common.Err, lemmas.List.Elements.All-weaker}
use Rattle.httparse.specs.Grammar.{print_request, print_blank, print_version, print_end, print_section}
use Rattle.httparse.specs.Spans.{IsRequestWithin, IsRequestAt, IsRequestOf, RequestOverflows, header_bytes}
use Rattle.httparse.specs.{Grammar.HasNoRequest, Grammar.ReadsRequest, Spans.IsHeaderWithin, Spans.name_and_value}
use Rattle.httparse.specs.{declared.spans.HeaderSpan.HeaderSpan, declared.spans.RequestSpans.RequestSpans}
use Rattle.httparse.proofs.GrammarLemmas.{print_request-append, ReadsRequest-append, request_unique}
use Rattle.service.specs.Heads.{most_octets, most_fields, HasNoHead, NeverHasHead, MayBegin, IsBegun}
use Rattle.service.specs.Known.{BeginsAt, IsKnown, IsParsed, IsRefusedAt, checked, headless, malformed}
use Rattle.service.specs.Received.{IsAll, IsPartial, ends_with_body, has_no_body, in_body, with_body, without_body}
use Rattle.service.specs.{Heads.IsHeadless, Checks.WantedValue, Checks.wanted_by, Heads.head_value}
use Rattle.service.specs.{Known.out_of_memory_for_body, declared.known.Parsed.Parsed, declared.known.Refused.Refused}
use Rattle.service.specs.{declared.refusal.Refusal.Refusal}
use Rattle.service.specs.declared.refusal.Refusal.TheVariants as refusal

-- no octets are no head
pub no_octets : HasNoRequest []
no_octets h rest reads =
    let tail = h.target ++ 32
    ∷ (print_version h.minor ++ (print_end h.line_end ++ (print_section h.fields h.last ++ rest))) in
    let whole : [] ≡ print_blank h.blank ++ (h.method ++ 32 ∷ tail) = reads.1 ∙ print_request-append h rest in
    let lengths : 0 ≡ length (print_blank h.blank ++ (h.method ++ 32 ∷ tail)) = ap length whole in
    absurd (omega (
      arith,
      lengths,
      length-append (print_blank h.blank) (h.method ++ 32 ∷ tail),
      length-append h.method (32 ∷ tail),
    ))

no_head : (octets : List ℕ) → HasNoRequest octets → HasNoHead octets
no_head octets none h rest begins = none h rest begins.reads

-- a beginning of which it is known that no head begins it
pub begun : (octets : List ℕ) → HasNoRequest octets → MayBegin octets → length octets < most_octets → IsBegun octets
begun octets none may short = record { none = no_head octets none; may = may; short = short }

pub none_begun : IsBegun []
none_begun = begun [] no_octets (inl refl) (omega arith)

-- a front that is no longer than another is a front of it
front_of : (p r o m : List ℕ) → p ++ r ≡ o ++ m → length p ≤ length o → o ≡ p ++ drop (length p) o
front_of p r o m same short =
    let fronts : p ≡ take (length p) o =
    sym (take_at p r (length p) refl) ∙ ap (take (length p)) same ∙ take-append-le (length p) o m short in
    sym (take-append-drop (length p) o) ∙ ap (λ l. l ++ drop (length p) o) (sym fronts)

-- octets up to the limit that are no head never become one
never_after_limit : (octets : List ℕ) → length octets ≡ most_octets → HasNoRequest octets → NeverHasHead octets
never_after_limit octets full none more h rest begins =
    none h (drop (length (print_request h)) octets) (
      begins.reads.0,
      front_of (print_request h) rest octets more (sym begins.reads.1)
          (omega (arith, full, begins.octet_limit)),
    )

never_with_overflow : (octets : List ℕ) → RequestOverflows most_fields octets → NeverHasHead octets
never_with_overflow octets overflows more h rest begins =
    absurd (omega (arith, overflows more h rest begins.reads, begins.field_limit))

-- the limit makes a head impossible
pub headless_by_limit : (octets : List ℕ) → length octets ≡ most_octets → HasNoRequest octets → MayBegin octets
    → IsHeadless octets
headless_by_limit octets full none may = record {
  front = octets;
  more = [];
  split = sym (append-nil octets);
  may = may;
  few = omega arith;
  never = never_after_limit octets full none;
  short = omega (arith, full);
}

-- a shorter front is that of a front
pub take_less : (n m : ℕ) (octets : List ℕ) → n ≤ m → m ≤ length octets → take n (take m octets) ≡ take n octets
take_less n m octets less within =
    sym (take-append-le n (take m octets) (drop m octets) (omega (arith, less, length-take-le m octets within)))
    ∙ ap (take n) (take-append-drop m octets)

-- a head that a parse finds
pub begins_at : (octets : List ℕ) (headers : List HeaderSpan) (spans : RequestSpans) → length octets ≤ most_octets
    → length headers ≡ most_fields → IsRequestWithin octets headers spans → IsRequestOf octets headers spans
    → BeginsAt octets headers spans
begins_at octets headers spans few fields within (h, at) = record {
  within = within;
  read = h;
  at = at;
  head = record {
    reads = (at.reads.0, sym (append-nil (print_request h)));
    octet_limit = omega (arith, few, at.len, within.section.len_fits);
    field_limit = omega (
      arith,
      fields,
      length-take spans.headers headers,
      length-map (take spans.headers headers) (header_bytes octets),
      ap length at.fields,
      length-map h.fields name_and_value,
    );
  };
}

-- it ends behind those that only began one
pub ends_behind : (octets : List ℕ) (before : ℕ) (headers : List HeaderSpan) (spans : RequestSpans)
    → before < length octets → IsBegun (take before octets) → BeginsAt octets headers spans → before < spans.len
ends_behind octets before headers spans within begun is =
    let front = take before octets in
    let p = print_request is.read in
    let rest = drop spans.len octets in
    let long : spans.len ≤ before → ⊥ = λ short. begun.none is.read (drop (length p) front) (record {
      reads = (
        is.at.reads.0,
        front_of p rest front (drop before octets) (sym is.at.reads.1 ∙ sym (take-append-drop before octets))
            (omega (arith, short, is.at.len, length-take-le before octets (omega (arith, within)))),
      );
      octet_limit = is.head.octet_limit;
      field_limit = is.head.field_limit;
    }) in
    omega (arith, long)

-- the head's octets are the first
front_octets : (octets : List ℕ) (headers : List HeaderSpan) (spans : RequestSpans)
    (begins : BeginsAt octets headers spans) → take spans.len octets ≡ print_request begins.read
front_octets octets headers spans begins =
    let p = print_request begins.read in
    ap (λ n. take n octets) begins.at.len ∙ ap (take (length p)) begins.at.reads.1
    ∙ take_at p (drop spans.len octets) (length p) refl

-- and so they are of all
pub head_octets : (octets : List ℕ) (seen : ℕ) → seen ≤ length octets → (headers : List HeaderSpan)
    (spans : RequestSpans) (begins : BeginsAt (take seen octets) headers spans)
    → take spans.len octets ≡ print_request begins.read
head_octets octets seen within headers spans begins =
    sym (take_less spans.len seen octets
    (omega (arith, begins.within.section.len_fits, length-take-le seen octets within)) within)
    ∙ front_octets (take seen octets) headers spans begins

-- the others stand behind them
pub behind_head : (octets : List ℕ) (seen : ℕ) → seen ≤ length octets → (headers : List HeaderSpan)
    (spans : RequestSpans) (begins : BeginsAt (take seen octets) headers spans)
    → octets ≡ print_request begins.read ++ drop spans.len octets
behind_head octets seen within headers spans begins =
    sym (take-append-drop spans.len octets)
    ∙ ap (λ l. l ++ drop spans.len octets) (head_octets octets seen within headers spans begins)

-- what is known by a head that a parse of all octets finds
pub parsed_now : (octets : List ℕ) (headers : List HeaderSpan) (spans : RequestSpans)
    (is : BeginsAt octets headers spans) (w : WantedValue) (is_all : Bool) → wanted_by (head_value is.read) ≡ Ok w
    → (is_all ≡ true → ends_with_body (head_value is.read) ≡ true)
    → IsParsed octets headers (record {
      seen = length octets;
      spans = spans;
      action = w.action;
      size = spans.len + w.count;
      is_all = is_all;
    })
parsed_now octets headers spans is w is_all wanted ends =
    let all : take (length octets) octets ≡ octets = take_all (length octets) octets (omega arith) in
    let W : List ℕ → Type 0 = λ l. IsRequestWithin l headers spans in
    let A : List ℕ → Type 0 = λ l. IsRequestAt l headers spans is.read in
    record {
      seen = omega arith;
      begins = record {
        within = subst W (sym all) is.within;
        read = is.read;
        at = subst A (sym all) is.at;
        head = is.head;
      };
      asked = w;
      wanted = wanted;
      action = refl;
      size = refl;
      ends = ends;
    }

pub refused_now : (octets : List ℕ) (headers : List HeaderSpan) (spans : RequestSpans)
    (is : BeginsAt octets headers spans) (f : Refusal) (is_all : Bool) → wanted_by (head_value is.read) ≡ Err f
    → (is_all ≡ true → has_no_body (head_value is.read) ≡ true)
    → IsRefusedAt octets (record { refusal = f; taken = spans.len; is_all = is_all })
refused_now octets headers spans is f is_all refused ends =
    let front = front_octets octets headers spans is in
    record {
      within = is.within.section.len_fits;
      is = checked is.read is.head refused front;
      all = λ all. without_body is.read is.head (ends all) front;
    }

-- the octets of a head are all there
pub has_head : (octets : List ℕ) (headers : List HeaderSpan) (parsed : Parsed) → IsParsed octets headers parsed
    → parsed.spans.len ≤ length octets
has_head octets headers parsed is =
    omega (
      arith,
      is.seen,
      is.begins.within.section.len_fits,
      length-take-le parsed.seen octets is.seen,
    )

-- where there is no room for the body, nothing is read behind the head
pub wanting_room : (octets : List ℕ) (headers : List HeaderSpan) (parsed : Parsed)
    (is : IsParsed octets headers parsed) → length octets < parsed.size
    → IsRefusedAt octets (record { refusal = refusal.Unavailable; taken = parsed.spans.len; is_all = false })
wanting_room octets headers parsed is less = record {
  within = has_head octets headers parsed is;
  is = out_of_memory_for_body is.begins.read is.begins.head is.asked is.wanted
      (omega (arith, less, is.size, has_head octets headers parsed is))
      (head_octets octets parsed.seen is.seen headers parsed.spans is.begins) refl;
  all = λ all. cc;
}

-- so many octets are no head
pub malformed_at : (octets : List ℕ) (headers : List HeaderSpan) (taken : ℕ) → taken ≤ length octets
    → IsHeadless (take taken octets) → IsKnown octets headers (headless taken)
malformed_at octets headers taken within is = record { within = within; is = malformed is refl; all = λ all. cc }

-- as many as a head has at most are none
pub long_at : (octets : List ℕ) (headers : List HeaderSpan) → length octets ≡ most_octets → HasNoRequest octets
    → MayBegin octets → IsKnown octets headers (headless (length octets))
long_at octets headers full none may =
    let P : List ℕ → Type 0 = λ l. IsHeadless l in
    malformed_at octets headers (length octets) (omega arith)
    (subst P (sym (take_all (length octets) octets (omega arith))) (headless_by_limit octets full none may))

-- a whole request of which nothing follows
pub all_parsed : (octets : List ℕ) (headers : List HeaderSpan) (parsed : Parsed) → IsParsed octets headers parsed
    → parsed.is_all ≡ true → parsed.size ≡ length octets → IsAll octets
all_parsed octets headers parsed is ends all =
    let body = drop parsed.spans.len octets in
    with_body is.begins.read is.begins.head (is.ends ends) is.asked is.wanted body
    (omega (arith, is.size, all, length-drop parsed.spans.len octets))
    (behind_head octets parsed.seen is.seen headers parsed.spans is.begins)

pub all_refused : (octets : List ℕ) (refused : Refused) → IsRefusedAt octets refused → refused.is_all ≡ true
    → refused.taken ≡ length octets → IsAll octets
all_refused octets refused is ends all =
    let P : List ℕ → Type 0 = λ l. IsAll l in
    subst P (ap (λ n. take n octets) all ∙ take_all (length octets) octets (omega arith)) (is.all ends)

-- a body to which octets are wanting
pub partial_body : (octets : List ℕ) (headers : List HeaderSpan) (parsed : Parsed) → IsParsed octets headers parsed
    → length octets < parsed.size → IsPartial octets
partial_body octets headers parsed is short =
    let front = is.begins.within.section.len_fits in
    in_body is.begins.read is.begins.head is.asked is.wanted (drop parsed.spans.len octets)
    (omega (
      arith,
      short,
      is.size,
      is.seen,
      front,
      length-take-le parsed.seen octets is.seen,
      length-drop parsed.spans.len octets,
    ))
    (behind_head octets parsed.seen is.seen headers parsed.spans is.begins)

-- a head that begins octets begins them with others behind them
pub parsed_more : (octets more : List ℕ) (headers : List HeaderSpan) (parsed : Parsed) → IsParsed octets headers parsed
    → IsParsed (octets ++ more) headers parsed
parsed_more octets more headers parsed is =
    let same : take parsed.seen (octets ++ more) ≡ take parsed.seen octets =
    take-append-le parsed.seen octets more is.seen in
    let W : List ℕ → Type 0 = λ l. IsRequestWithin l headers parsed.spans in
    let A : List ℕ → Type 0 = λ l. IsRequestAt l headers parsed.spans is.begins.read in
    record {
      seen = omega (arith, is.seen, length-append octets more);
      begins = record {
        within = subst W (sym same) is.begins.within;
        read = is.begins.read;
        at = subst A (sym same) is.begins.at;
        head = is.begins.head;
      };
      asked = is.asked;
      wanted = is.wanted;
      action = is.action;
      size = is.size;
      ends = is.ends;
    }

-- a head among octets has too many fields where one among more of them has
pub overflows_before : (octets : List ℕ) (middle high : ℕ) (headers : List HeaderSpan) (spans : RequestSpans)
    → middle ≤ high → high ≤ length octets → IsRequestOf (take middle octets) headers spans
    → RequestOverflows most_fields (take high octets) → RequestOverflows most_fields (take middle octets)
overflows_before octets middle high headers spans order within (h, at) overflows more k rest reads =
    let front = take middle octets in
    let behind = drop middle (take high octets) in
    let r = drop spans.len front in
    let same : h ≡ k =
    (request_unique (front ++ more) h k (r ++ more) rest (ReadsRequest-append front h r more at.reads) reads).0 in
    let split : front ++ behind ≡ take high octets =
    ap (λ l. l ++ behind) (sym (take_less middle high octets order within)) ∙ take-append-drop middle (take high octets)
    in
    let P : List ℕ → Type 0 = λ l. ReadsRequest l h (r ++ behind) in
    let longer : ReadsRequest (take high octets) h (r ++ behind) =
    subst P split (ReadsRequest-append front h r behind at.reads) in
    let many : most_fields < length h.fields =
    overflows [] h ((r ++ behind) ++ []) (ReadsRequest-append (take high octets) h (r ++ behind) [] longer) in
    subst (λ h. most_fields < length h.fields) same many

-- octets that one more octet spoils
pub headless_at : (octets : List ℕ) (low high : ℕ) → low < high → high ≤ low + 1 → high ≤ length octets
    → length octets ≤ most_octets → MayBegin (take low octets) → RequestOverflows most_fields (take high octets)
    → IsHeadless (take high octets)
headless_at octets low high order near within few may overflows =
    let front = take low octets in
    let more = drop low (take high octets) in
    let split : front ++ more ≡ take high octets =
    ap (λ l. l ++ more) (sym (take_less low high octets (omega (arith, order)) within))
    ∙ take-append-drop low (take high octets) in
    record {
      front = front;
      more = more;
      split = sym split;
      may = may;
      few = omega (
        arith,
        near,
        order,
        within,
        length-take-le high octets within,
        length-take-le low octets (omega (arith, order, within)),
        length-append front more,
        ap length split,
      );
      never = never_with_overflow (take high octets) overflows;
      short = omega (arith, few, within, length-take-le high octets within);
    }

-- headers that lie in the first octets lie in all of them
pub within_more : (n m : ℕ) (headers : List HeaderSpan) → n ≤ m → All (IsHeaderWithin n) headers
    → All (IsHeaderWithin m) headers
within_more n m headers less all =
    All-weaker (IsHeaderWithin n) (IsHeaderWithin m)
    (λ h w. ((w.0.0, omega (arith, less, w.0.1)), (w.1.0, omega (arith, less, w.1.1)))) headers all
