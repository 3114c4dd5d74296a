use Rattle.std.proofs.Common.{◌≡◌, ◌∙◌, ℕ, ◌+◌, ◌-◌, ◌≤◌, List, ◌++◌, Result, Ok, Err, arith, length, take}
use Rattle.std.proofs.Common.{ap, le_refl, drop_at, length-take-le, refl, subst}
use Rattle.std.proofs.{Common.slice_range, Common.sym, lemmas.Slice.take-put_mid_below}
use borrow.Rule.Slice.PartMut.{put_mid, post_of}
use lib.Seq.{take-add, take-append-le}
use Rattle.std.specs.{Io.ReadsAtMost, Io.KnownBytes.ReadConsumes, Prelude.IfOk, Prelude.MatchResult, Result.IsErrAnd}
use Rattle.service.specs.Known.{Fills}
use Rattle.service.proofs.request.read_behind.Goals as goal

take_split : (a b : ℕ) (old new : List ℕ) → a ≤ b → take a new ≡ take a old
    → take a old ++ slice_range new a b ≡ take b new
take_split a b old new h front =
    let same : a + (b - a) ≡ b = omega arith in
    ap (λ l. l ++ slice_range new a b) (sym front) ∙ sym (take-add a (b - a) new) ∙ ap (λ n. take n new) same

slice_range-put_mid : (a k n : ℕ) (xs ys : List ℕ) → a ≤ length xs → n ≤ length ys
    → slice_range (put_mid a k xs ys) a (a + n) ≡ take n ys
slice_range-put_mid a k n xs ys within fits =
    let same : (a + n) - a ≡ n = omega arith in
    let after = post_of a k xs in
    ap (take ((a + n) - a)) (drop_at (take a xs) (ys ++ after) a (length-take-le a xs within))
    ∙ ap (λ m. take m (ys ++ after)) same ∙ take-append-le n ys after fits

-- what a call answers whose errors are told by their kind
if_ok : {T E D : Type 0} (P : T → Type 0) (Q : E → D → Type 0) (r : Result T E) (told : Result T D)
    → MatchResult r (λ x. told ≡ Ok x) (λ e. IsErrAnd told (Q e)) → ((x : T) → r ≡ Ok x → P x) → IfOk told P
if_ok P Q (Ok x) told same given = subst (λ d. IfOk d P) (sym same) (given x refl)
if_ok P Q (Err e) (Ok x) same given = absurd same
if_ok P Q (Err e) (Err d) same given = tt

-- what was read stands after what was filled before
pub returns-clause-fills : goal.returns-clause-fills
returns-clause-fills g c =
    let a = c.args.filled in
    let k = c.min-end.result - a in
    let room = c.args.room.now in
    let part = c.read.new.buf in
    let old = g.R.Read.remaining c.args.reader.now in
    let new = g.R.Read.remaining c.read.new.self in
    let within : a ≤ length room = omega (arith, c.requires.within) in
    if_ok (Fills old new room (put_mid a k room part) a) _ c.read.result c.map_err.result c.map_err.ensures.cases
    (λ count is.
    let bound = subst (λ r. ReadsAtMost r part) is c.read.ensures.bound in
    let bytes = subst (λ r. ReadConsumes old new r part) is c.read.ensures.bytes in
    record {
      got = take count part;
      consumed = bytes.0;
      fills = sym (take_split a (a + count) room (put_mid a k room part) (omega arith)
          (take-put_mid_below _ _ _ _ _ (le_refl _) within))
          ∙ ap (λ l. take a room ++ l) (slice_range-put_mid a k count room part within bound.0);
      within = omega (arith, bound.0, c.read.auto.buf, c.min-end.ensures, c.requires.within);
      ended = λ none. bytes.1 none
          (omega (arith, c.read.auto.buf, c.min-end.ensures, c.saturating_add.ensures, c.requires.within, c.requires.some));
    })
