use Rattle.std.proofs.Common.{◌∙◌, arith, map, sym}
use Rattle.book.specs.Values.{hold_view}
use Rattle.operations.proofs.GoingOn.{closed_already, closed_now, known_closed, settled_now}
use Rattle.operations.proofs.continuation.close_for_tokens.Goals as goal

pub returns-then-is_closed-clause-closes : goal.returns-then-is_closed-clause-closes
returns-then-is_closed-clause-closes g c =
    closed_already g.B.Standing _ c.args.book.now
    (λ b k. sym (known_closed b (map hold_view c.args.held.now) k) ∙ sym c.is_closed.ensures ∙ c.if-is_closed.true)

pub returns-then-is_closed-clause-settled : goal.returns-then-is_closed-clause-settled
returns-then-is_closed-clause-settled g c honest left leaves b s k before =
    rw (sym (known_closed b (map hold_view c.args.held.now) k) ∙ sym c.is_closed.ensures ∙ c.if-is_closed.true)
    (before leaves)

pub returns-clause-closes : goal.returns-clause-closes
returns-clause-closes g c =
    closed_now g.B.Standing _ c.args.book.now c.append.new.self c.append.result
    (λ b k. sym (known_closed b (map hold_view c.args.held.now) k) ∙ sym c.is_closed.ensures ∙ c.if-is_closed.false)
    (omega arith, tt)
    c.append.ensures.appends

pub returns-clause-settled : goal.returns-clause-settled
returns-clause-settled g c honest left leaves b s k before =
    settled_now g.B.Standing c.args.book.now c.append.new.self c.append.result (omega arith, tt)
    c.append.ensures.appends honest left leaves b s
    (sym (known_closed b (map hold_view c.args.held.now) k) ∙ sym c.is_closed.ensures ∙ c.if-is_closed.false)
