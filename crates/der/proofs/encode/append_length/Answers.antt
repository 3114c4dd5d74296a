use Rattle.std.proofs.Common.{rules, ◌≡◌, ◌∷◌, ◌+◌, ◌≤◌, ◌++◌, length, sym, ap, ◌∙◌, arith, append_assoc}
use Rattle.std.specs.Int.Digits.{digits_of}
use Rattle.der.{specs.Node.length_octets, proofs.Lengths.length_octets_long, proofs.Lengths.length_octets_short}
use Rattle.der.proofs.encode.append_length.Goals as goal

pub returns-then-count-lt128 : goal.returns-then-count-lt128
returns-then-count-lt128 c =
    c.in_ok-push.ensures.items
    ∙ ap (λ more. c.args.octets.now.items ++ more) (sym (length_octets_short c.args.count c.if-count-lt128.true))

pub returns : goal.returns
returns c =
    let low : 128 ≤ c.args.count = omega (arith, c.if-count-lt128.false) in
    let long : length_octets c.args.count ≡ (128 + length (digits_of 256 c.args.count)) ∷ digits_of 256 c.args.count =
    length_octets_long c.args.count low in
    search (rules, append_assoc)
