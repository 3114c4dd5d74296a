use Rattle.std.proofs.Common.{◌≡◌, ◌<◌, ◌≤◌, ◌+◌, ◌-◌, ◌∙◌, List, [], ◌∷◌, ℕ, length, get_or, take, drop, refl, arith}
use Rattle.std.proofs.{Common.length-take, Common.length-drop, lemmas.Grind.common_steps}
use Rattle.der.proofs.DigitsElements.{all-from_places}
use Rattle.der.proofs.ReadingLengths.{long_length_zero, long_length_small, long_length_written, long_length_four}
use Rattle.der.proofs.ReadingLengths.{number_of_one, number_of_two, number_of_three}
use Rattle.der.proofs.read.long_length.Goals as goal

no_first : (octets : List ℕ) → length octets < 1 → get_or octets 0 0 ≡ 0
no_first [] h = refl
no_first (first ∷ others) h = absurd (omega arith)

-- what stands after the first octet
after_first : (octets : List ℕ) (i : ℕ)
    → get_or (take (length octets - 1) (drop 1 octets)) i 0 ≡ get_or octets (i + 1) 0
after_first octets i = grind (arith, common_steps)

pub returns-in_default : goal.returns-in_default
returns-in_default c = λ rest. long_length_zero c.args.octets.now rest
    (no_first c.args.octets.now c.in_default.len_below)

pub returns-then-first-eq0 : goal.returns-then-first-eq0
returns-then-first-eq0 c = λ rest. long_length_zero c.args.octets.now rest c.if-first-eq0.true

pub returns-in-empty : goal.returns-in-empty
returns-in-empty c = λ rest.
    let octets = c.args.octets.now in
    let one : length octets ≡ 1 =
    omega (arith, c.in-len1-up.len_at_least, simp (length-take, length-drop) at c.in-empty.len_below) in
    long_length_small octets rest (omega (arith, number_of_one octets one, c.from-first.ensures, c.if-first-lt128.true))

pub returns-in-empty-2 : goal.returns-in-empty-2
returns-in-empty-2 c = λ rest.
    let octets = c.args.octets.now in
    let bytes = all-from_places 256 octets (λ i below. (c.type_inv.octets i).fits) in
    let one : length octets ≡ 1 =
    omega (arith, c.in-len1-up.len_at_least, simp (length-take, length-drop) at c.in-empty.len_below) in
    let first : get_or octets 0 0 < 256 = (c.type_inv.octets 0).fits in
    long_length_written octets rest _ bytes (omega (arith, c.if-first-eq0.false))
    (omega (arith, number_of_one octets one, c.from-first.ensures)) c.if-first-lt128.false
    (omega (arith, first, c.from-first.ensures))

pub returns-in-len1 : goal.returns-in-len1
returns-in-len1 c = λ rest.
    let octets = c.args.octets.now in
    let bytes = all-from_places 256 octets (λ i below. (c.type_inv.octets i).fits) in
    let two : length octets ≡ 2 = omega (
      arith,
      simp (length-take, length-drop) at c.in-len1.len_at_least,
      simp (length-take, length-drop) at c.in-len1.len_below,
    ) in
    let first : get_or octets 0 0 < 256 = (c.type_inv.octets 0).fits in
    let second : get_or octets 1 0 < 256 = (c.type_inv.octets 1).fits in
    let low : c.from.result ≡ get_or octets 1 0 = c.from.ensures ∙ after_first octets 0 in
    long_length_written octets rest _ bytes (omega (arith, c.if-first-eq0.false))
    (omega (arith, number_of_two octets two, c.from-first.ensures, low))
    (omega (arith, c.if-first-eq0.false, c.from-first.ensures))
    (omega (arith, first, second, low, c.from-first.ensures))

pub returns-in-len2 : goal.returns-in-len2
returns-in-len2 c = λ rest.
    let octets = c.args.octets.now in
    let bytes = all-from_places 256 octets (λ i below. (c.type_inv.octets i).fits) in
    let three : length octets ≡ 3 = omega (
      arith,
      simp (length-take, length-drop) at c.in-len2.len_at_least,
      simp (length-take, length-drop) at c.in-len2.len_below,
    ) in
    let first : get_or octets 0 0 < 256 = (c.type_inv.octets 0).fits in
    let second : get_or octets 1 0 < 256 = (c.type_inv.octets 1).fits in
    let third : get_or octets 2 0 < 256 = (c.type_inv.octets 2).fits in
    let middle : c.from-in-len2.result ≡ get_or octets 1 0 = c.from-in-len2.ensures ∙ after_first octets 0 in
    let low : c.from-in-len2-2.result ≡ get_or octets 2 0 = c.from-in-len2-2.ensures ∙ after_first octets 1 in
    long_length_written octets rest _ bytes (omega (arith, c.if-first-eq0.false))
    (omega (arith, number_of_three octets three, c.from-first.ensures, middle, low))
    (omega (arith, c.if-first-eq0.false, c.from-first.ensures))
    (omega (arith, first, second, third, middle, low, c.from-first.ensures))

pub returns-in-len3-up : goal.returns-in-len3-up
returns-in-len3-up c = λ rest.
    let octets = c.args.octets.now in
    let bytes = all-from_places 256 octets (λ i below. (c.type_inv.octets i).fits) in
    let long : 4 ≤ length octets = omega (arith, simp (length-take, length-drop) at c.in-len3-up.len_at_least) in
    long_length_four octets rest bytes long (omega (arith, c.if-first-eq0.false))
