use Rattle.std.proofs.Common.{◌+◌, ◌≤◌, ◌<◌, ◌^◌, sym, ap, ◌∙◌, arith}
use Rattle.der.proofs.Lengths.{digit_count_few, digit_count_last, digit_count_one}
use Rattle.der.proofs.encode.+digit_count.Goals as goal

pub returns-then-n-lt256-clause-count : goal.returns-then-n-lt256-clause-count
returns-then-n-lt256-clause-count t c = sym (digit_count_one c.args.n c.requires c.if-n-lt256.true)

pub returns-else-n-lt256-clause-count : goal.returns-else-n-lt256-clause-count
returns-else-n-lt256-clause-count t c =
    let low : 256 ≤ c.args.n = omega (arith, c.if-n-lt256.false) in
    ap (λ k. k + 1) c.digit_count.ensures.count ∙ sym (digit_count_last c.args.n low)

pub returns-else-n-lt256-clause-few : goal.returns-else-n-lt256-clause-few
returns-else-n-lt256-clause-few t c =
    let low : 256 ≤ c.args.n = omega (arith, c.if-n-lt256.false) in
    let small : c.args.n < 2 ^ 64 = omega (arith, c.ranges.n.fits) in
    omega (arith, digit_count_few c.args.n small, digit_count_last c.args.n low, c.digit_count.ensures.count)
