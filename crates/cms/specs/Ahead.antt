-- Texts that are sent to a session ahead of its answers to those before them.
use Rattle.std.specs.Prelude.{◌≡◌, ℕ, List, [], ◌∷◌, length, Result, Ok, Err, Vec, vec_len, false}
use Rattle.std.specs.{Io.KnownBytes.Appends, List.AllByRecursion}
use Rattle.cms.specs.Framed.{frames, IsShort, FramedState}
use Rattle.cms.specs.declared.signer.SignerFault.{SignerFault, TheVariants.Failed, TheVariants.Memory}

-- the first of some texts may fail
abbrev pub FailsFirst : {S : Type 0} → (S → List ℕ → Result (List ℕ) SignerFault → S → Type 0) → S → List (List ℕ)
    → Type 0
FailsFirst signs x [] = Unit {0}
FailsFirst {S} signs x (text ∷ texts) = (z : S) × signs x text (Err Failed) z

-- What sending does: the texts are outstanding, and there is room for an answer to each; or memory is wanting, and
-- nothing is done; or the session fails, at the first text, and is closed.
abbrev pub SendsAhead : {S X A : Type 0} → (S → List ℕ → Result (List ℕ) SignerFault → S → Type 0)
    → (S → List (List ℕ) → S → Type 0) → (S → Type 0) → S → List (List ℕ) → Result (Vec X A) SignerFault → S → Type 0
SendsAhead signs ahead closed before texts (Ok rooms) after = (vec_len rooms ≡ length texts) × ahead before texts after
SendsAhead signs ahead closed before texts (Err Memory) after = after ≡ before
SendsAhead signs ahead closed before texts (Err Failed) after = FailsFirst signs before texts × closed after

-- What receiving does: as if the session were before, the text is signed, and the others are outstanding; or it fails.
abbrev pub ReceivesAhead : {S : Type 0} → (S → List ℕ → Result (List ℕ) SignerFault → S → Type 0)
    → (S → List (List ℕ) → S → Type 0) → S → List ℕ → List (List ℕ) → Result (List ℕ) SignerFault → S → Type 0
ReceivesAhead {S} signs ahead before text texts (Ok answer) after =
    (z : S) × (signs before text (Ok answer) z × ahead z texts after)
ReceivesAhead signs ahead before text texts (Err fault) after = FailsFirst signs before (text ∷ texts)

-- The frames of all of some texts went out, and nothing was read.
pub record AreOutstanding {R W : Type 0} (before : FramedState R W) (texts : List (List ℕ)) (after : FramedState R W)
    : Type 0 where
  pub opened : before.is_closed ≡ false
  pub still_open : after.is_closed ≡ false
  pub short : AllByRecursion IsShort texts
  pub same_unread : after.unread ≡ before.unread
  pub sent : Appends before.written after.written (frames texts)

-- As if the session were before, and these texts outstanding, it is after.
abbrev pub IsAhead : {R W : Type 0} → FramedState R W → List (List ℕ) → FramedState R W → Type 0
IsAhead before [] after = after ≡ before
IsAhead before (text ∷ texts) after = AreOutstanding before (text ∷ texts) after
