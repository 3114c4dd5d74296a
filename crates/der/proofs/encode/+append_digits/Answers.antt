use Rattle.std.proofs.Common.{rules, ◌≡◌, ◌++◌, [], ◌∷◌, ◌/◌, ◌%◌, ◌≤◌, sym, ap, ◌∙◌, arith, append_assoc}
use Rattle.std.specs.Int.Digits.{digits_of}
use Rattle.der.proofs.Lengths.{digits_of_last, one_digit}
use Rattle.der.proofs.encode.+append_digits.Goals as goal

pub returns-then-n-lt256 : goal.returns-then-n-lt256
returns-then-n-lt256 t c =
    c.in_ok-push.ensures.items
    ∙ ap (λ more. c.args.octets.now.items ++ more) (sym (one_digit c.args.n c.requires c.if-n-lt256.true))

pub returns : goal.returns
returns t c =
    let low : 256 ≤ c.args.n = omega (arith, c.if-n-lt256.false) in
    let last : digits_of 256 c.args.n ≡ digits_of 256 (c.args.n / 256) ++ (c.args.n % 256 ∷ []) =
    digits_of_last c.args.n low in
    search (rules, append_assoc)
