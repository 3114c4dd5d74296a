use Rattle.std.proofs.{Common.◌∙◌, Common.length-take-le, Common.sym, Common.take, lemmas.Bool.eqb-true}
use Rattle.service.proofs.KnownLemmas.{all_parsed, all_refused}
use Rattle.service.proofs.request.Request.is_all.Goals as goal

pub returns-then-parsed : goal.returns-then-parsed
returns-then-parsed c = λ same.
    let r = c.self.inside in
    let kept = rw c.in-Parsed.is at c.self.invariant in
    rw (← c.self.view_is)
    (all_parsed (take r.filled r.room.items) r.headers c.in-Parsed.parsed kept.is c.if-parsed.true
    (eqb-true _ _ same ∙ sym (length-take-le r.filled r.room.items kept.within)))

pub returns-then-refused : goal.returns-then-refused
returns-then-refused c = λ same.
    let r = c.self.inside in
    let kept = rw c.in-Refused.is at c.self.invariant in
    rw (← c.self.view_is)
    (all_refused (take r.filled r.room.items) c.in-Refused.refused kept.is c.if-refused.true
    (eqb-true _ _ same ∙ sym (length-take-le r.filled r.room.items kept.within)))
