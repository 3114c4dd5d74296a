-- A signer whose session is opened anew where it was lost.
use Rattle.std.specs.Prelude.{◌≡◌, ◌⊎◌, ℕ, ◌<◌, ◌≤◌, List, [], ◌++◌, length, Option, Some, None, Result, Ok, Err}
use Rattle.std.specs.Prelude.{Bool, true, false, IfSome}
use Rattle.cms.specs.declared.signer.SignerFault.TheVariants.{Failed, Memory}
use Rattle.cms.specs.{Ahead.FailsFirst, Framed.FramedState, Signer.SignsEach, declared.signer.SignerFault.SignerFault}

-- What opens sessions; the session, if one is open; how many answers of it are to come; and whether the texts that are
-- outstanding fail. Faults are counted modulo 2 ^ 64.
pub record ReconnectingState (S O : Type 0) : Type 0 where
  pub sessions : O
  pub session : Option S
  pub algorithm : List ℕ
  pub faults : ℕ
  pub ahead : ℕ
  pub is_lost : Bool

-- what is left of a session by what it answered: a failure loses it
abbrev pub left_by : {S : Type 0} → Result (List ℕ) SignerFault → S → Option S
left_by (Ok answer) session = Some session
left_by (Err Memory) session = Some session
left_by (Err Failed) session = None

-- A session is asked, and nothing else is done.
pub record AsksSession {S : Type 0} (signs : S → List ℕ → Result (List ℕ) SignerFault → S → Type 0) (session : S)
    (text : List ℕ) (answer : Result (List ℕ) SignerFault) (left : Option S) : Type 0 where
  pub after : S
  pub signs_it : signs session text answer after
  pub left_so : left ≡ left_by answer after

-- the session that a call asks: that which was open, or, where none was, one that was just opened
abbrev pub IsTaken : {S : Type 0} → (fresh : S → Type 0) → Option S → S → Type 0
IsTaken fresh before session = (before ≡ Some session) ⊎ ((before ≡ None) × fresh session)

-- What a call does. One session is asked, once: that which is open, or, where none is, one that was just opened. It
-- fails where none can be opened; and where answers to other texts are to come, and the session is lost with them.
pub data SignsRenewed {S O : Type 0} (signs : S → List ℕ → Result (List ℕ) SignerFault → S → Type 0)
    (fresh : S → Type 0) (before : ReconnectingState S O) (text : List ℕ) (answer : Result (List ℕ) SignerFault)
    (after : ReconnectingState S O) : Type 0 where
  asks : (session : S) → IsTaken fresh before.session session → AsksSession signs session text answer after.session
      → SignsRenewed signs fresh before text answer after
  refused : before.session ≡ None → after.session ≡ None → answer ≡ Err Failed
      → SignsRenewed signs fresh before text answer after
  abandoned : 0 < before.ahead → after.session ≡ None → answer ≡ Err Failed
      → SignsRenewed signs fresh before text answer after

-- What goes out between two moments, whatever fails: consecutive parts of these texts go to sessions that follow one
-- another. One is opened only where none is open; one that is let go is handed back, as it is by then; and what opens
-- them is told of each signature, and nothing else.
pub data SendsRenewed {S O : Type 0} (sent : S → List (List ℕ) → S → Type 0) (fresh : S → Type 0)
    (opens : O → Option S → O → Type 0) (signed : O → O → Type 0) (loses : O → S → O → Type 0)
    : ReconnectingState S O → List (List ℕ) → ReconnectingState S O → Type 0 where
  nothing : (x : ReconnectingState S O) (texts : List (List ℕ)) (y : ReconnectingState S O) → y.session ≡ x.session
      → y.sessions ≡ x.sessions → SendsRenewed sent fresh opens signed loses x texts y
  hands : (x : ReconnectingState S O) (texts : List (List ℕ)) (y : ReconnectingState S O) (before after : S)
      → x.session ≡ Some before → sent before texts after → y.session ≡ Some after → y.sessions ≡ x.sessions
      → SendsRenewed sent fresh opens signed loses x texts y
  opened : (x y : ReconnectingState S O) → x.session ≡ None → opens x.sessions y.session y.sessions
      → IfSome y.session fresh → SendsRenewed sent fresh opens signed loses x [] y
  told : (x y : ReconnectingState S O) → y.session ≡ x.session → signed x.sessions y.sessions
      → SendsRenewed sent fresh opens signed loses x [] y
  lost : (x y : ReconnectingState S O) (session : S) → x.session ≡ Some session → loses x.sessions session y.sessions
      → y.session ≡ None → SendsRenewed sent fresh opens signed loses x [] y
  both : (x y z : ReconnectingState S O) (texts others : List (List ℕ))
      → SendsRenewed sent fresh opens signed loses x texts y → SendsRenewed sent fresh opens signed loses y others z
      → SendsRenewed sent fresh opens signed loses x (texts ++ others) z

-- How a signer stands with texts that are outstanding, as if the others had been asked for one after the other: it is
-- as it would be; or the session is taken that the next will be asked over; or all were sent to that session, and its
-- answers are to come; or it is gone, and the next fails.
pub data Stands {S O : Type 0} (signs : S → List ℕ → Result (List ℕ) SignerFault → S → Type 0)
    (is_ahead : S → List (List ℕ) → S → Type 0) (fresh : S → Type 0) (as_if : ReconnectingState S O)
    (outstanding : List (List ℕ)) (now : ReconnectingState S O) : Type 0 where
  still : now ≡ as_if → (1 ≤ length outstanding → now.ahead ≡ 0)
      → (1 ≤ length outstanding → now.is_lost ≡ true → now.session ≡ None)
      → Stands signs is_ahead fresh as_if outstanding now
  taken : (session : S) → IsTaken fresh as_if.session session → now.session ≡ Some session → now.ahead ≡ 0
      → now.is_lost ≡ false → 1 ≤ length outstanding → Stands signs is_ahead fresh as_if outstanding now
  sent : (before after : S) → IsTaken fresh as_if.session before → is_ahead before outstanding after
      → now.session ≡ Some after → now.ahead ≡ length outstanding → now.is_lost ≡ false → 1 ≤ length outstanding
      → Stands signs is_ahead fresh as_if outstanding now
  gone : FailsFirst (SignsRenewed signs fresh) as_if outstanding → now.session ≡ None → now.ahead ≡ 0
      → now.is_lost ≡ true → 1 ≤ length outstanding → Stands signs is_ahead fresh as_if outstanding now

-- How far it is with texts that were handed over. What is outstanding went out with them, or didn't yet.
pub record AwaitsRenewed {S O : Type 0} (signs : S → List ℕ → Result (List ℕ) SignerFault → S → Type 0)
    (is_ahead : S → List (List ℕ) → S → Type 0) (fresh : S → Type 0)
    (sent : ReconnectingState S O → List (List ℕ) → ReconnectingState S O → Type 0) (x : ReconnectingState S O)
    (texts : List (List ℕ)) (answers : List (Result (List ℕ) SignerFault)) (outstanding : List (List ℕ))
    (y : ReconnectingState S O) : Type 0 where
  pub as_if : ReconnectingState S O
  pub signed : SignsEach (SignsRenewed signs fresh) x texts answers as_if
  pub stands : Stands signs is_ahead fresh as_if outstanding y
  pub went_out : sent x (texts ++ outstanding) y
  pub not_yet : y.ahead ≡ 0 → y.is_lost ≡ false → sent x texts y

-- a session with a key holder that was just opened
abbrev pub IsOpened : {R W : Type 0} → FramedState R W → Type 0
IsOpened session = (session.is_closed ≡ false) × (session.faults ≡ 0)
