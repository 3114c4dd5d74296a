use Rattle.std.proofs.Common.{◌≡◌, ◌∙◌, ap, arith, drop, inl, sym, take}
use Rattle.service.specs.{Heads.head_value, Views.head_view}
use Rattle.service.proofs.RequestLemmas.{due_in_body, due_whole}
use Rattle.service.proofs.request.Request.due.Goals as goal

pub returns-in-Refused-clause-due : goal.returns-in-Refused-clause-due
returns-in-Refused-clause-due c =
    let kept = rw c.in-Refused.is at c.self.invariant in
    rw (← c.self.view_is, c.in-Refused.is) (inl kept.is.is)

pub returns-in-Parsed-clause-due : goal.returns-in-Parsed-clause-due
returns-in-Parsed-clause-due c =
    let r = c.self.inside in
    rw (← c.self.view_is, c.in-Parsed.is)
    (due_in_body r.room.items r.headers r.filled c.in-Parsed.parsed r.is_ended c.cut-in-Parsed.result
    (rw c.in-Parsed.is at c.self.invariant) c.if-self-parsed.true c.cut-in-Parsed.ensures.ended
    c.cut-in-Parsed.ensures.out_of_memory)

pub returns-in-Parsed-2-clause-due : goal.returns-in-Parsed-2-clause-due
returns-in-Parsed-2-clause-due c =
    let r = c.self.inside in
    let parsed = c.in-Parsed-2.parsed in
    let octets = take r.filled r.room.items in
    let kept = rw c.in-Parsed-2.is at c.self.invariant in
    let body = c.split_at-in-Parsed-2-3.result.1.now in
    let all : c.split_at.result.0.now ≡ octets = c.split_at.ensures.front ∙ ap (take r.filled) c.as_slice.ensures.value in
    let seen : c.split_at-in-Parsed-2.result.0.now ≡ take parsed.seen octets =
    c.split_at-in-Parsed-2.ensures.front ∙ ap (take parsed.seen) all in
    let same : head_view c.head_in-head.result ≡ head_value kept.is.begins.read =
    c.head_in-head.ensures.head kept.is.begins.read (rw (sym seen) at kept.is.begins.at) in
    let is_body : body ≡ drop parsed.spans.len (take parsed.size octets) =
    c.split_at-in-Parsed-2-3.ensures.back
    ∙ ap (drop parsed.spans.len) (c.split_at-in-Parsed-2-2.ensures.front ∙ ap (take parsed.size) all) in
    rw (← c.self.view_is, c.in-Parsed-2.is)
    (due_whole r.room.items r.headers r.filled parsed r.is_ended kept (omega (arith, c.if-self-parsed.false))
    c.head_in-head.result body same c.head_in-head.ensures.within is_body)
