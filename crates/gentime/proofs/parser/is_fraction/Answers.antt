use Rattle.std.{proofs.Common.arith, proofs.lemmas.Bool.Decides.nat_tests, specs.Char.IsAsciiDigit}
use Rattle.std.proofs.lemmas.List.Elements.{recursion_from_All, All-from_recursion}
use Rattle.gentime.proofs.Texts.{ends_in_no_zero, ends_in_zero}
use Rattle.gentime.proofs.parser.is_fraction.Goals as goal

pub returns-then-last-ne48 : goal.returns-then-last-ne48
returns-then-last-ne48 c =
    let last = c.in-Some.ensures.cases in (
      λ t. (
        (
          recursion_from_All IsAsciiDigit _ (c.are_digits.ensures.0 t),
          ends_in_no_zero _ _ _ last.0 c.if-last-ne48.true,
        ),
        omega (arith, last.1),
      ),
      λ h. c.are_digits.ensures.1 (All-from_recursion IsAsciiDigit _ h.0.0),
    )

pub returns-else-last-ne48 : goal.returns-else-last-ne48
returns-else-last-ne48 c =
    let last = c.in-Some.ensures.cases in
    (λ t. absurd (grind (arith, nat_tests)), λ h. absurd (ends_in_zero _ _ _ last.0 c.if-last-ne48.false h.0.1))
