use Rattle.std.proofs.lemmas.Result.{err_from_is_err_and}
use Rattle.der.proofs.Elements.{expected_fails, expected_other, not_equal}
use Rattle.der.proofs.cursor.Cursor.expect.Goals as goal

pub returns-in_err-found-clause-refusals : goal.returns-in_err-found-clause-refusals
returns-in_err-found-clause-refusals c =
    let p = err_from_is_err_and c.from_residual.result c.from_residual.ensures.1 in
    rw (p.1, p.2) (expected_fails c.args.tag.octet c.args.self.now _ c.in_err-found.ensures.refusals)

pub returns-then-ne-clause-refusals : goal.returns-then-ne-clause-refusals
returns-then-ne-clause-refusals c =
    let e = c.in_ok-found.found in
    expected_other c.args.tag.octet c.args.self.now e.whole.now e.tag.octet e.content.now c.next.new.self
    c.in_ok-found.ensures.found e.encoded e.tag.low_tag_number e.short
    (not_equal e.tag.octet c.args.tag.octet c.if-ne.ensures)
