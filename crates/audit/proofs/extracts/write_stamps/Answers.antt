use Rattle.std.proofs.Common.{Err, ap, arith, refl, rules, ◌≡◌, IfSome, subst, ◌∙◌}
use Rattle.std.proofs.lemmas.Result.{err_from_is_err_and}
use Rattle.audit.specs.{auxiliary.Steps.IsLine, Writes.Writes}
use Rattle.audit.proofs.Lines.{added, begun, cut_first, cut_later, next_left, some_header, some_line}
use Rattle.audit.proofs.extracts.write_stamps.Goals as goal

pub write_line-requires-clause-some : goal.write_line-requires-clause-some
write_line-requires-clause-some g c = some_header c.header.result.now c.header.ensures

pub returns-in_err-write_line-clause-written : goal.returns-in_err-write_line-clause-written
returns-in_err-write_line-clause-written g c =
    let failing = err_from_is_err_and c.from_residual.result c.from_residual.ensures.1 in
    cut_first g.B.Standing _ _ _ _ _ _ _ _ _ _ (failing.1 ∙ ap Err failing.2) c.requires c.header.ensures
    c.in_err-write_line.ensures.written

pub loop-line-init : goal.loop-line-init
loop-line-init g c =
    let walk = c.of-walk.ensures in
    rw (walk.begun, walk.from, walk.to) (
      begun g.B.Standing _ _ _ _ _ _ _ _ c.requires c.header.ensures c.in_ok-write_line.ensures.written,
      omega (arith, c.in_ok-write_line.ensures.within, c.in_ok-write_line.ensures.limit),
      refl,
      c.in_ok-write_line.ensures.kept,
      c.in_ok-write_line.ensures.limit,
    )

pub write_line-requires-in-Some-clause-some : goal.write_line-requires-in-Some-clause-some
write_line-requires-in-Some-clause-some g c =
    let line = subst (λ found. IfSome found IsLine) c.in-Some.is c.in_ok-line.ensures.line in
    some_line line.0 c.deref.result.now (c.deref.ensures.value ∙ line.1)

-- what the walk's stamp leaves, with its line
pub loop-line-preserved : goal.loop-line-preserved
loop-line-preserved g c =
    let line = subst (λ found. IfSome found IsLine) c.in-Some.is c.in_ok-line.ensures.line in (
      added g.B.Standing _ _ _ _ _ _ _ _ _ _ _ _ _ _ c.deref.result.now line.0 c.loop-line.invariant.0
          c.in_ok-line.ensures.looks c.in_ok-line.ensures.faults (c.deref.ensures.value ∙ line.1)
          (λ h b s. next_left _ _ _ _ _ c.in-Some.is c.deref.ensures.value (c.in_ok-line.ensures.value h b s))
          c.in_ok-write_line-2.ensures.written,
      omega (arith, c.in_ok-write_line-2.ensures.within, c.in_ok-write_line-2.ensures.limit),
      c.in_ok-line.ensures.same_reference ∙ c.loop-line.invariant.2,
      c.in_ok-write_line-2.ensures.kept ∙ c.loop-line.invariant.3,
      c.in_ok-write_line-2.ensures.limit ∙ c.loop-line.invariant.4,
    )

pub returns-in_err-write_line-2-clause-written : goal.returns-in_err-write_line-2-clause-written
returns-in_err-write_line-2-clause-written g c =
    let failing = err_from_is_err_and c.from_residual-in_err-write_line-2.result
    c.from_residual-in_err-write_line-2.ensures.1 in
    let line = subst (λ found. IfSome found IsLine) c.in-Some.is c.in_ok-line.ensures.line in
    let store = c.in_err-write_line-2.store-in-Break-branch-4-1-own.given.0 in
    let same : c.next_line.new.walk.book.now ≡ store = search rules in
    subst (λ s. Writes g.B.Standing c.args.store.now s (g.W.Write.contents c.args.out.now)
    (g.W.Write.contents c.write_line-in-Some.new.out) c.args.inquiry.now.from c.args.inquiry.now.to
    c.write_line-in-Some.new.meter.octets
    c.from_residual-in_err-write_line-2.result) same
    (cut_later g.B.Standing _ _ _ _ _ _ _ _ _ _ _ _ _ _ c.deref.result.now line.0 _ _ (failing.1 ∙ ap Err failing.2)
    c.loop-line.invariant.0 c.in_ok-line.ensures.looks (c.deref.ensures.value ∙ line.1)
    (λ h b s. next_left _ _ _ _ _ c.in-Some.is c.deref.ensures.value (c.in_ok-line.ensures.value h b s))
    c.in_err-write_line-2.ensures.written)
