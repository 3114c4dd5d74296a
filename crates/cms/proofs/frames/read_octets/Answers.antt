use Rattle.std.proofs.Common.{◌≡◌, ℕ, ◌+◌, ◌-◌, ◌≤◌, List, [], ◌++◌, rules, arith, length, take, slice_range, sym, ap}
use Rattle.std.proofs.Common.{◌∙◌, subst, le_refl, drop_at, length-take-le, append-nil}
use Rattle.std.proofs.{lemmas.Slice.take-put_mid_below, KnownBytes.Consumes-trans, KnownBytes.Consumes-kept}
use Rattle.std.specs.Io.KnownBytes.{Consumes}
use borrow.Rule.Slice.PartMut.{put_mid, post_of}
use lib.Seq.{take-add, take-append-le}
use Rattle.cms.proofs.frames.read_octets.Goals as goal

take_split : (a b : ℕ) (old new : List ℕ) → a ≤ b → take a new ≡ take a old
    → take a old ++ slice_range new a b ≡ take b new
take_split a b old new h front =
    let same : a + (b - a) ≡ b = omega arith in
    ap (λ l. l ++ slice_range new a b) (sym front) ∙ sym (take-add a (b - a) new) ∙ ap (λ n. take n new) same

slice_range-put_mid : (a k n : ℕ) (xs ys : List ℕ) → a ≤ length xs → n ≤ length ys
    → slice_range (put_mid a k xs ys) a (a + n) ≡ take n ys
slice_range-put_mid a k n xs ys within fits =
    let same : (a + n) - a ≡ n = omega arith in
    let after = post_of a k xs in
    ap (take ((a + n) - a)) (drop_at (take a xs) (ys ++ after) a (length-take-le a xs within))
    ∙ ap (λ m. take m (ys ++ after)) same ∙ take-append-le n ys after fits

-- what was read stands after what was filled before
pub loop-filled-preserved : goal.loop-filled-preserved
loop-filled-preserved g c =
    let from = c.loop-filled.filled in
    let room = length c.loop-filled.octets - from in
    let within = c.loop-filled.invariant.1 in
    let part = slice_range-put_mid from room c.in-Ok.taken c.loop-filled.octets c.read.new.buf within
    c.in-Ok.ensures.bound.0 in
    let joined = take_split from (from + c.in-Ok.taken) c.loop-filled.octets
    (put_mid from room c.loop-filled.octets c.read.new.buf) (omega arith)
    (take-put_mid_below _ _ _ _ _ (le_refl _) within) in (
      search rules,
      search rules,
      subst (Consumes _ _) (ap (λ l. take from c.loop-filled.octets ++ l) (sym part) ∙ joined)
          (Consumes-trans _ _ _ _ _ c.loop-filled.invariant.2 c.in-Ok.ensures.bytes.0),
      λ i. omega (arith, c.type_inv.octets i),
    )

pub returns-in-Err-clause-err : goal.returns-in-Err-clause-err
returns-in-Err-clause-err g c =
    let filled : length (take c.loop-filled.filled c.loop-filled.octets) ≡ c.loop-filled.filled =
    length-take-le c.loop-filled.filled c.loop-filled.octets c.loop-filled.invariant.1 in (
      take c.loop-filled.filled c.loop-filled.octets,
      omega (arith, filled, c.loop-filled.invariant.0, c.loop-filled-test.true),
      Consumes-kept _ _ _ _ c.loop-filled.invariant.2 c.in-Err.ensures.bytes,
    )

pub returns-in-Ok-eq0-clause-err : goal.returns-in-Ok-eq0-clause-err
returns-in-Ok-eq0-clause-err g c =
    let before = take c.loop-filled.filled c.loop-filled.octets in
    let filled : length before ≡ c.loop-filled.filled =
    length-take-le c.loop-filled.filled c.loop-filled.octets c.loop-filled.invariant.1 in
    let nothing : take c.in-Ok-eq0.field-0 c.read.new.buf ≡ [] =
    ap (λ (n : ℕ). take n c.read.new.buf) c.in-Ok-eq0.field-0-test in
    let same : before ++ take c.in-Ok-eq0.field-0 c.read.new.buf ≡ before =
    ap (λ l. before ++ l) nothing ∙ append-nil before in (
      before,
      omega (arith, filled, c.loop-filled.invariant.0, c.loop-filled-test.true),
      subst (Consumes _ _) same (Consumes-trans _ _ _ _ _ c.loop-filled.invariant.2 c.in-Ok-eq0.ensures.bytes.0),
    )
