-- Writing in steps.
use Rattle.std.proofs.Common.{◌≡◌, ◌∙◌, Result, Ok, Err, ◌+◌, ◌<◌, ◌≤◌, ℕ, List, [], ◌∷◌, ◌++◌, Option, Some, None}
use Rattle.std.proofs.Common.{length, min, take, sym, subst, refl, arith, inl, inr}
use Rattle.std.proofs.{KnownBytes.Appends-trans, Math.Seq.take-append-add, Math.Seq.take-length, lemmas.List.append-nil}
use Rattle.std.proofs.{lemmas.List.take-append-le, lemmas.List.take_min, lemmas.Fmt.decimal_digit}
use Rattle.std.specs.{Io.KnownBytes.Appends, Io.KnownBytes.Keeps, Fmt.decimal, Fmt.digits, Prelude.OnErr, Prelude.OnOk}
use Rattle.audit.specs.Failures.{HasFailed}
use Rattle.console.specs.Writes.{Begins, IsWhole}

pub appends_nothing : (old : Option (List ℕ)) → Appends old old []
appends_nothing None = tt
appends_nothing (Some xs) = sym (append-nil xs)

pub keeps_beginning : (old mid new : Option (List ℕ)) (text : List ℕ) → Appends old mid text → Keeps mid new
    → Appends old new text
keeps_beginning None mid new text appended kept = tt
keeps_beginning (Some xs) None new text appended kept = absurd appended
keeps_beginning (Some xs) (Some ys) None text appended kept = absurd kept
keeps_beginning (Some xs) (Some ys) (Some zs) text appended kept = kept ∙ appended

-- a beginning of the second text after the first is one of both
pub begins_after : (old mid new : Option (List ℕ)) (first second : List ℕ) → Appends old mid first
    → Begins mid new second
    → Begins old new (first ++ second)
begins_after old mid new first second one two = (
  length first + two.0,
  rw (take-append-add first second two.0)
      (Appends-trans old mid new first (take two.0 second) one two.1),
)

-- a beginning of the first text is one of both
pub begins_before : (old new : Option (List ℕ)) (first second : List ℕ) → Begins old new first
    → Begins old new (first ++ second)
begins_before old new first second one =
    let n = min one.0 (length first) in
    let small : n ≤ length first = omega arith in
    let same : take n (first ++ second) ≡ take one.0 first = take-append-le n first second small
    ∙ take_min one.0 first in
    (n, rw same one.1)

-- whatever a write answers, it left a beginning
pub begins_whatever : {T E : Type 0} (old new : Option (List ℕ)) (text : List ℕ) (written : Result T E)
    → OnOk written (Appends old new text)
    → OnErr written (Begins old new text) → Begins old new text
begins_whatever {T} {E} old new text (Ok done) whole begun = (length text, rw (take-length text) whole)
begins_whatever {T} {E} old new text (Err e) whole begun = begun

-- whatever a write answers, the text is whole, or it failed
pub whole_whatever : {T E : Type 0} (old new : Option (List ℕ)) (before after : Option ℕ) (text : List ℕ)
    (written : Result T E) → OnOk written (Appends old new text) → OnErr written (HasFailed before after)
    → IsWhole old new before after text
whole_whatever {T} {E} old new before after text (Ok done) whole failed = inl whole
whole_whatever {T} {E} old new before after text (Err e) whole failed = inr failed

-- the end of a fault's line
pub digit_line : (number digit : ℕ) → number ≡ digit → digit < 10 → (48 + digit) ∷ 10 ∷ [] ≡ decimal number ++ 10 ∷ []
digit_line number digit is small = rw (is, decimal_digit digit small) refl

pub ten_line : (number : ℕ) → number ≡ 10 → 49 ∷ 48 ∷ 10 ∷ [] ≡ decimal number ++ 10 ∷ []
unfolding digits
ten_line number is = rw is refl

pub eleven_line : (number : ℕ) → number ≡ 11 → 49 ∷ 49 ∷ 10 ∷ [] ≡ decimal number ++ 10 ∷ []
unfolding digits
eleven_line number is = rw is refl
