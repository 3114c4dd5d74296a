use Rattle.std.specs.Prelude.{OnErr}
use Rattle.std.proofs.Common.{◌≡◌, ◌∙◌, ℕ, ◌+◌, true, List, ◌++◌, ap, arith, drop, length, subst, sym, take}
use Rattle.std.proofs.{Common.Result, Common.Ok, Common.Err, lemmas.List.with_items_is}
use Rattle.httparse.specs.declared.spans.HeaderSpan.{HeaderSpan}
use Rattle.service.specs.Known.{IsKept, IsKnown, received}
use Rattle.service.specs.{declared.known.Known.Known, Received.IsPartial, Received.is_open}
use Rattle.service.proofs.RequestLemmas.{exact_head, kept_more, kept_partial, open_parts}
use Rattle.service.proofs.request.Request.read_some.Goals as goal

-- what is known of the octets before room is made is known of them then
known_then : (all : ℕ) (octets before after : List ℕ) (headers : List HeaderSpan) (k k' : Known)
    → octets ≡ take all before → take all after ≡ take all before → IsKnown octets headers k
    → (IsKnown (take all before) headers k → IsKnown (take all before) headers k') → IsKnown (take all after) headers k'
known_then all octets before after headers k k' same kept is then =
    let P : List ℕ → Type 0 = λ l. IsKnown l headers k in
    let Q : List ℕ → Type 0 = λ l. IsKnown l headers k' in
    subst Q (sym kept) (then (subst P same is))

on_err : {T E P : Type 0} (r : Result T E) → P → OnErr r P
on_err (Ok x) is = tt
on_err (Err e) is = is

pub invariant_of-self-in-Open : goal.invariant_of-self-in-Open
invariant_of-self-in-Open g c =
    let all = c.self.inside.filled + c.in_ok-count.count in
    let made = c.with_room-self-inside.ensures in
    record {
      within = made.within;
      few = made.few;
      is = known_then all _ _ _ _ _ _ (c.split_at.ensures.front ∙ ap (take all) c.as_slice.ensures.value) made.kept
          c.known_of-known.ensures.known (made.known c.known_of-known.new.headers);
      short = made.short;
      left = made.left;
    }

pub invariant_of-self-in_default : goal.invariant_of-self-in_default
invariant_of-self-in_default g c =
    let r = c.self.inside in
    let after = c.read_behind.new.room in
    let long : length after ≡ r.room.len = omega (arith, c.read_behind.auto.room, c.as_mut_slice.ensures.len) in
    let room = take r.room.len (after ++ drop (length after) r.room.items) in
    let same : room ≡ after = with_items_is r.room after long in
    let opened : is_open (received r.room.items r.filled r.known r.is_ended) ≡ true =
    ap is_open c.self.view_is ∙ sym c.is_open.ensures ∙ c.if-not-is_open.false in
    let fills = c.in_ok-count.ensures.fills in
    let P : List ℕ → Type 0 = λ l. IsKept l r.headers (r.filled + c.in_ok-count.count) r.known in
    subst P (sym same)
    (kept_more r.room.items after r.headers r.filled c.in_ok-count.count r.known c.self.invariant c.in_default.not-Open
    (open_parts _ r.is_ended opened).0 fills.got
    (fills.fills ∙ ap (λ l. take r.filled l ++ fills.got) c.as_mut_slice.ensures.value)
    (omega (arith, c.read_behind.auto.room, ap length c.as_mut_slice.ensures.value))
    (omega (arith, fills.within, ap length c.as_mut_slice.ensures.value)))

pub returns-in-Open-clause-exact : goal.returns-in-Open-clause-exact
returns-in-Open-clause-exact g c = λ one opens closed.
    let r = c.self.inside in
    let opened : is_open (received r.room.items r.filled r.known r.is_ended) ≡ true = ap is_open c.self.view_is ∙ opens in
    let all = r.filled + c.in_ok-count.count in
    let made = c.with_room-self-inside.ensures in
    exact_head c.with_room-self-inside.new.room.items c.known_of-known.new.headers r.filled all
    c.with_room-self-inside.result r.is_ended (record {
      within = made.within;
      few = made.few;
      is = known_then all _ _ _ _ _ _ (c.split_at.ensures.front ∙ ap (take all) c.as_slice.ensures.value) made.kept
          c.known_of-known.ensures.known (made.known c.known_of-known.new.headers);
      short = made.short;
      left = made.left;
    })
    (omega (arith, one, c.in_ok-count.ensures.few, c.most-most.ensures.head c.in-Open.is, c.if-count-eq0.false))
    (made.behind r.filled c.known_of-known.ensures.behind) (open_parts _ r.is_ended opened).1 closed

pub returns-in_err-count-clause-partial : goal.returns-in_err-count-clause-partial
returns-in_err-count-clause-partial g c =
    let r = c.self.inside in
    let opened : is_open (received r.room.items r.filled r.known r.is_ended) ≡ true =
    ap is_open c.self.view_is ∙ sym c.is_open.ensures ∙ c.if-not-is_open.false in
    let P : List ℕ → Type 0 = λ l. IsPartial l in
    on_err _ (subst P (ap (λ v. v.octets) c.self.view_is)
    (kept_partial r.room.items r.headers r.filled r.known c.self.invariant (open_parts _ r.is_ended opened).0))
