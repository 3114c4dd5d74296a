use Rattle.std.{proofs.Common.arith, proofs.lemmas.List.Elements.recursion_from_All, specs.Char.IsAsciiDigit}
use Rattle.gentime.proofs.Fractions.{micros_of_bound, worth-drop}
use Rattle.gentime.proofs.parser.micros_of.Goals as goal

pub overflow_add-micros : goal.overflow_add-micros
overflow_add-micros c =
    let total = micros_of_bound _ (recursion_from_All IsAsciiDigit _ c.requires) in
    let step = worth-drop c.loop-digit.unit c.args.digits.now c.loop-digit.digit-index c.loop-digit-test.true in
    rw c.from.ensures (omega (arith, total, step, c.loop-digit.invariant))

pub returns-clause-bound : goal.returns-clause-bound
returns-clause-bound c =
    let total = micros_of_bound _ (recursion_from_All IsAsciiDigit _ c.requires) in
    omega (arith, total, c.loop-digit.invariant)
