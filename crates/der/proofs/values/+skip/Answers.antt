use Rattle.std.proofs.Common.{◌≡◌, ◌<◌, ◌==◌, true, false, length, rules, arith, sym, ap, ◌∙◌}
use Rattle.std.proofs.lemmas.Result.{err_from_is_err_and}
use Rattle.der.specs.{Node.bit_six, FirstFault.values_at, auxiliary.Piece.piece_view}
use Rattle.der.proofs.ReadingRuns.{node_at_none, node_at_refused}
use Rattle.der.proofs.ValuesRead.{forget, forget_ok, forget_err, values_follow, values_fail, values_end, inner_fails}
use Rattle.der.proofs.ValuesRead.{inner_found, outer_found}
use Rattle.der.proofs.values.+skip.Goals as goal

pub skip_value-returns-then-levels-eq0 : goal.skip_value-returns-then-levels-eq0
skip_value-returns-then-levels-eq0 t c = node_at_none c.args.levels c.args.octets.now c.if-levels-eq0.true

pub skip_value-returns-in_err-tag : goal.skip_value-returns-in_err-tag
skip_value-returns-in_err-tag t c =
    let p = err_from_is_err_and c.from_residual.result c.from_residual.ensures.1 in
    let some : 0 < c.args.levels = omega (arith, c.if-levels-eq0.false) in
    rw (p.1, p.2) (node_at_refused c.args.levels c.args.octets.now _ some c.in_err-tag.ensures.read)

pub skip_value-returns-in_err-skip_values : goal.skip_value-returns-in_err-skip_values
skip_value-returns-in_err-skip_values t c =
    let p = err_from_is_err_and c.from_residual-in_err-skip_values.result
    c.from_residual-in_err-skip_values.ensures.1 in
    let some : 0 < c.args.levels = omega (arith, c.if-levels-eq0.false) in
    let bit : (bit_six c.in_ok-tag.field-0.tag.octet == 1) ≡ true = search rules in
    rw (p.1, p.2) (inner_fails c.args.levels c.args.octets.now (piece_view c.in_ok-tag.field-0) _ some
    c.in_ok-tag.ensures.read bit c.in_err-skip_values.ensures)

pub skip_value-returns-then-not-is_constructed : goal.skip_value-returns-then-not-is_constructed
skip_value-returns-then-not-is_constructed t c =
    let some : 0 < c.args.levels = omega (arith, c.if-levels-eq0.false) in
    let bit : (bit_six c.in_ok-tag.field-0.tag.octet == 1) ≡ false = search rules in
    outer_found c.args.levels c.args.octets.now (piece_view c.in_ok-tag.field-0) some c.in_ok-tag.ensures.read bit

pub skip_value-returns : goal.skip_value-returns
skip_value-returns t c =
    let some : 0 < c.args.levels = omega (arith, c.if-levels-eq0.false) in
    let bit : (bit_six c.in_ok-tag.field-0.tag.octet == 1) ≡ true = search rules in
    inner_found c.args.levels c.args.octets.now
    (piece_view c.in_ok-tag.field-0) c.in_ok-skip_values.ensures.0 some c.in_ok-tag.ensures.read bit
    c.in_ok-skip_values.ensures.1

pub skip_values-returns-in_err-rest : goal.skip_values-returns-in_err-rest
skip_values-returns-in_err-rest t c =
    let p = err_from_is_err_and c.from_residual.result c.from_residual.ensures.1 in
    let l = c.loop-rest in
    let some : 0 < length l.rest.now = grind arith in
    let fails = values_fail c.args.levels l.rest.now _ some c.in_err-rest.ensures in
    rw (p.1, p.2) (forget_err (values_at c.args.levels c.args.octets.now) _ (sym l.invariant.same ∙ ap forget fails))

pub skip_values-loop-rest-smaller : goal.skip_values-loop-rest-smaller
skip_values-loop-rest-smaller t c =
    let l = c.loop-rest in
    let some : 0 < length l.rest.now = grind arith in
    (values_follow c.args.levels l.rest.now c.in_ok-rest.ensures.0 c.in_ok-rest.rest.now l.invariant.bytes some
    c.in_ok-rest.ensures.1).shorter

pub skip_values-loop-rest-preserved : goal.skip_values-loop-rest-preserved
skip_values-loop-rest-preserved t c =
    let l = c.loop-rest in
    let some : 0 < length l.rest.now = grind arith in
    let follow = values_follow c.args.levels l.rest.now c.in_ok-rest.ensures.0 c.in_ok-rest.rest.now l.invariant.bytes
    some c.in_ok-rest.ensures.1 in
    record { same = follow.same ∙ l.invariant.same; bytes = follow.bytes }

pub skip_values-returns : goal.skip_values-returns
skip_values-returns t c =
    let l = c.loop-rest in
    let none : length l.rest.now ≡ 0 = grind arith in
    forget_ok (values_at c.args.levels c.args.octets.now)
    (sym l.invariant.same ∙ ap forget (values_end c.args.levels l.rest.now none))
