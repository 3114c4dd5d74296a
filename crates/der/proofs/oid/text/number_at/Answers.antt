use Rattle.std.proofs.Common.{length, sym, refl, subst, arith}
use Rattle.std.proofs.lemmas.{Bool.eqb-true, Bool.eqb-false, List.take_rest}
use Rattle.der.{specs.ObjectIdentifier.IsNumberAt, proofs.OidNumbers.no_number}
use Rattle.der.proofs.OidNumbers.{number_found, number_missing, number_padded, number_large, number_to_end, no_text}
use Rattle.der.proofs.oid.text.number_at.Goals as goal

pub returns-then-index-gt0 : goal.returns-then-index-gt0
returns-then-index-gt0 c =
    subst (IsNumberAt c.args.text.now c.loop-index.number) (sym (take_rest c.args.text.now c.loop-index.index))
    (number_found _ _ _ _ c.loop-index-test.true refl c.loop-index.invariant c.if-not-is_ascii_digit.ensures.cases
    c.if-index-gt0.true)

pub returns-else-index-gt0 : goal.returns-else-index-gt0
returns-else-index-gt0 c =
    no_number c.args.text.now (number_missing _ _ _ _ c.loop-index-test.true refl c.loop-index.invariant
    c.if-not-is_ascii_digit.ensures.cases c.if-index-gt0.false)

pub returns-then-number-eq0 : goal.returns-then-number-eq0
returns-then-number-eq0 c =
    let digit = c.if-not-is_ascii_digit.ensures.cases in
    no_number c.args.text.now (number_padded _ _ _ _ c.loop-index-test.true refl c.loop-index.invariant digit.0 digit.1
    c.if-index-gt0-2.true c.if-number-eq0.true)

pub returns-in_err-number : goal.returns-in_err-number
returns-in_err-number c =
    let digit = c.if-not-is_ascii_digit.ensures.cases in
    rw c.from_residual.ensures
    (no_number c.args.text.now (number_large _ _ _ _ c.loop-index-test.true refl c.loop-index.invariant digit.0 digit.1
    (λ some none. absurd (omega arith)) c.in_err-number.ensures))

pub returns-then-is_empty : goal.returns-then-is_empty
returns-then-is_empty c =
    no_number c.args.text.now (no_text c.args.text.now (eqb-true _ 0 (sym c.if-is_empty.ensures)))

pub returns-else-is_empty : goal.returns-else-is_empty
returns-else-is_empty c =
    let some = eqb-false (length c.args.text.now) 0 (sym c.if-is_empty.ensures) in
    number_to_end c.args.text.now _ _ c.loop-index-test.false (omega (arith, some)) c.loop-index.invariant
