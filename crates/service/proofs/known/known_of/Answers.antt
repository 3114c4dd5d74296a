use Rattle.std.proofs.Common.{◌∙◌, arith, inr, subst, sym}
use Rattle.service.specs.{Known.BeginsAt, Known.IsKnown, declared.known.Known.Known}
use Rattle.service.proofs.KnownLemmas.{begins_at, ends_behind, long_at}
use Rattle.service.proofs.known.known_of.Goals as goal

pub returns-in-Ok-Complete-clause-behind : goal.returns-in-Ok-Complete-clause-behind
returns-in-Ok-Complete-clause-behind c =
    let is : BeginsAt c.args.octets.now c.parse_request.new.headers c.in-Ok-Complete.spans =
    begins_at _ _ _ c.requires.few (c.parse_request.auto.headers ∙ c.requires.fields)
    (rw c.in-Ok-Complete.field-0-is at c.in-Ok-Complete.ensures.within)
    (rw c.in-Ok-Complete.field-0-is at c.in-Ok-Complete.ensures.complete) in
    c.known_by_head.ensures.behind c.args.before
    (ends_behind c.args.octets.now c.args.before c.parse_request.new.headers c.in-Ok-Complete.spans c.requires.before
    c.requires.begun is)

pub returns-in-Ok-Partial-2-clause-known : goal.returns-in-Ok-Partial-2-clause-known
returns-in-Ok-Partial-2-clause-known c =
    let P : Known → Type 0 = λ k. IsKnown c.args.octets.now c.parse_request.new.headers k in
    subst P (sym c.headless.ensures)
    (long_at c.args.octets.now c.parse_request.new.headers
    (omega (arith, c.requires.few, c.if-octets-lt-MOST_OCTETS.false))
    (rw c.in-Ok-Partial.field-0-is at c.in-Ok-Partial.ensures.partial)
    (inr (rw c.in-Ok-Partial.field-0-is at c.in-Ok-Partial.ensures.unfinished)))
