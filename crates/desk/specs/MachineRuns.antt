-- Runs of the machine over lists of commands, and journeys through openings and stops.
use Rattle.std.specs.Prelude.{◌≡◌, ℕ, ◌≤◌, ◌++◌, ◌+◌, Bool, true, false, List, [], ◌∷◌, drop, length, Option, Some}
use Rattle.std.specs.{Prelude.None, Prelude.Result, List.AllByRecursion, List.Contains}
use Rattle.der.specs.ObjectIdentifier.{IsOid}
use Rattle.cms.specs.{Identity.IdentityValue, SignedData.token, declared.signer.SignerFault.SignerFault}
use Rattle.decide.specs.Clock.{Follows}
use Rattle.book.specs.History.{Entry, Reserved, Sealed, Deposited, Calibrated, Held, Granted, Revoked, Installed}
use Rattle.book.specs.History.{History, InstalledValue, ReservationValue, calibrations, holds}
use Rattle.book.specs.{Continuation.Floor, Continuation.IsAboveIfAny, Continuation.continued, History.last_gen_time}
use Rattle.book.specs.{History.token_of, History.reservation_at, History.deposit_at, Sound.Along, Rows.DepositRow}
use Rattle.book.specs.{Identities.latest_identity, Identities.identity_at_reservation, Values.deposit_of}
use Rattle.desk.specs.Command.{Setting, PendingValue, Command, Stamp, Finish, Abandon, Deposit, Show, Token, Grant}
use Rattle.desk.specs.Command.{Revoke, Calibrate, Hold, Succeed, Answer, Stamped, Rejected, Begun, Kept, Shown, Listed}
use Rattle.desk.specs.Command.{Done, Numbered, Refused, setting_after}
use Rattle.desk.specs.MachineStep.{HasEffect, IsMet, Moves}
use Rattle.desk.specs.{Content.IsForRequest, Content.IsSoundInFull, Continuation.IsStatedIfAny, Outcome.Outcome}
use Rattle.desk.specs.{Texts.token_with, Effects.Effect, Succession.installed_by, Succession.HasSubject}
use Rattle.tsp.specs.Granted.{granted_octets}

-- a policy file's record with an accuracy, in microseconds, and object identifiers as such files have, and an identity
-- that was read
pub record IsProper (s : Setting) : Type 0 where
  pub some_accuracy : 1 ≤ s.file.counter.accuracy_us
  pub most_accuracy : s.file.counter.accuracy_us ≤ 1_000_000
  pub policies : AllByRecursion (λ p. IsOid p.oid) s.file.policies
  pub identity : HasSubject s.in_force.identity

-- the history after a command
abbrev pub after : Effect → History → History
after e b = e.adds ++ b

-- what a stop in a command leaves: the history before it and a beginning of what the command adds
abbrev pub cut : ℕ → Effect → History → History
cut k e b = drop k e.adds ++ b

-- Commands one after the other, with their outcomes and answers, and how the signer moves: each is done by the setting
-- that the one before it left.
abbrev pub Runs : {S : Type 0} → (S → List ℕ → Result (List ℕ) SignerFault → S → Type 0)
    → Setting → List Command → List Outcome → History → S → List Answer → History → S → Type 0
Runs signs s [] [] b x [] b' x' = (b' ≡ b) × (x' ≡ x)
Runs {S} signs s (c ∷ cs) (o ∷ os) b x (answer ∷ answers) b' x' =
    (e : Effect) × (y : S) × (HasEffect s c o b e × Moves signs e.asks o.signing x y × (answer ≡ e.says)
    × Runs signs (setting_after s c e.says) cs os (after e b) y answers b' x')
Runs signs s [] [] b x (answer ∷ answers) b' x' = ⊥
Runs signs s [] (o ∷ os) b x answers b' x' = ⊥
Runs signs s (c ∷ cs) [] b x answers b' x' = ⊥
Runs signs s (c ∷ cs) (o ∷ os) b x [] b' x' = ⊥

-- a command and what it was answered
pub record Told : Type 0 where
  pub command : Command
  pub answer : Answer

-- a calibration or a hold
abbrev pub IsEntering : Command → Type 0
IsEntering (Calibrate c) = Unit {0}
IsEntering (Hold h) = Unit {0}
IsEntering _ = ⊥

-- A journey: openings, whole commands, and both cut by a stop, each from the history that was left, also in a new book
-- in which that goes on. It tells by what setting a desk is open, if one is, and what was answered, the newest first.
pub data Journey : History → Option Setting → List Told → Type 0 where
  begins : Journey [] None []
  -- a desk is opened, by a policy file, an identity and an algorithm of its own: what is in force is brought so, as a
  -- succession brings it
  opens : {b : History} {x : Option Setting} {w : List Told} (s : Setting) (o : Outcome) (e : Effect)
      → IsProper s → HasEffect s (Succeed s.in_force) o b e → e.says ≡ Done → Journey b x w
      → Journey (after e b) (Some s) w
  -- so it is by a program whose schema kept no identities, before any was installed, and whose TSTInfos named none
  opens_older : {b : History} {x : Option Setting} {w : List Told} (s : Setting) → IsProper s
      → latest_identity b ≡ None → s.file.counter.tsa_name ≡ false → Journey b x w → Journey b (Some s) w
  -- an opening is refused, or cut by a stop
  shuts : {b : History} {x : Option Setting} {w : List Told} (s : Setting) (o : Outcome) (e : Effect) (k : ℕ)
      → IsProper s → HasEffect s (Succeed s.in_force) o b e → Journey b x w
      → Journey (cut k e b) None w
  -- No desk is open: its store may be closed, and taken to a newer schema, also where a stop cuts that, which adds
  -- nothing.
  rests : {b : History} {x : Option Setting} {w : List Told} → Journey b x w → Journey b None w
  -- A calibration or a hold is added by the store alone, where no desk is open; whole, or cut by a stop. No setting
  -- enters its effect.
  enters : {b : History} {w : List Told} (s : Setting) (c : Command) (o : Outcome) (e : Effect)
      → IsEntering c → IsMet c b → HasEffect s c o b e → Journey b None w
      → Journey (after e b) None (record { command = c; answer = e.says } ∷ w)
  breaks : {b : History} {w : List Told} (s : Setting) (c : Command) (o : Outcome) (e : Effect) (k : ℕ)
      → IsEntering c → IsMet c b → HasEffect s c o b e → Journey b None w
      → Journey (cut k e b) None w
  goes : {b : History} {w : List Told} (s : Setting) (c : Command) (o : Outcome) (e : Effect)
      → IsMet c b → HasEffect s c o b e → Journey b (Some s) w
      → Journey (after e b) (Some (setting_after s c e.says)) (record { command = c; answer = e.says } ∷ w)
  stops : {b : History} {w : List Told} (s : Setting) (c : Command) (o : Outcome) (e : Effect) (k : ℕ)
      → IsMet c b → HasEffect s c o b e → Journey b (Some s) w
      → Journey (cut k e b) None w
  -- The history goes on in a new book, where no desk is open, with a void stamp in place of the last one or without.
  -- What is told from then on is the new book's: the old one, with what it acknowledged, goes on by itself.
  continues : {b : History} {w : List Told} (floor : Option Floor) → IsAboveIfAny floor b → IsStatedIfAny floor b
      → Journey b None w → Journey (continued floor b) None []

-- A reservation comes after those before it: its genTime never before the last one, and after it where its TSTInfo
-- states ordering.
pub record Rises (r : ReservationValue) (b : History) : Type 0 where
  pub stamped : IsForRequest r
  pub follows : Follows stamped.ordering (last_gen_time b) r.gen_time

abbrev pub IsRising : Entry → History → Type 0
IsRising (Reserved r) b = Rises r b
IsRising (Sealed serial token) b = Unit {0}
IsRising (Deposited d token) b = Unit {0}
IsRising (Calibrated c) b = Unit {0}
IsRising (Held h) b = Unit {0}
IsRising (Granted number account) b = Unit {0}
IsRising (Revoked number account) b = Unit {0}
IsRising (Installed i) b = Unit {0}

-- A stamp was signed under this identity: it is the one of the stamp's serial number, the last that was installed
-- before it was reserved. A program whose schema kept no identities has installed none.
abbrev pub IsSignedUnder : IdentityValue → ℕ → History → Type 0
IsSignedUnder identity serial b =
    (installed : InstalledValue) → identity_at_reservation serial b ≡ Some installed → installed ≡ installed_by identity

-- A token stands under its serial number, over the TSTInfo that was reserved and the identity of that number.
pub record IsTokenFor (serial : ℕ) (b : History) (text : List ℕ) : Type 0 where
  pub reservation : ReservationValue
  pub reserved : reservation_at serial b ≡ Some reservation
  pub identity : IdentityValue
  pub algorithm : List ℕ
  pub signature : List ℕ
  pub certificate : Bool
  pub text_is : text ≡ token identity algorithm reservation.tst signature certificate
  pub sealed : token_of serial b ≡ Some text
  pub signer : IsSignedUnder identity serial b

-- What was handed in with its signature stands under its serial number. With which identity it was begun, the answer
-- that began it tells (`finished`).
pub record IsFinishedFor (p : PendingValue) (signature : List ℕ) (serial : ℕ) (b : History) (text : List ℕ)
    : Type 0 where
  pub number : serial ≡ p.serial
  pub text_is : text ≡ token_with p signature
  pub sealed : token_of serial b ≡ Some text

-- What waits for its signature is reserved, with its TSTInfo, and is signed under the identity of its number.
pub record IsReservedFor (p : PendingValue) (b : History) : Type 0 where
  pub reservation : ReservationValue
  pub reserved : reservation_at p.serial b ≡ Some reservation
  pub tst : reservation.tst ≡ p.tst
  pub signer : IsSignedUnder p.identity p.serial b

-- of a list with the newest first, the one with that number: they count 1, 2, 3 and so on from the oldest
pub record IsNumbered {X : Type 0} (number : ℕ) (x : X) (xs : List X) : Type 0 where
  pub newer : List X
  pub older : List X
  pub is : xs ≡ newer ++ (x ∷ older)
  pub counts : number ≡ length older + 1

-- The token of a granted reply stands. No other commands are answered so.
abbrev pub IsStampKept : History → Command → ℕ → List ℕ → Type 0
IsStampKept b (Stamp account reading octets) serial reply =
    (text : List ℕ) × (reply ≡ granted_octets text) × IsTokenFor serial b text
IsStampKept b (Finish p signature) serial reply =
    (text : List ℕ) × (reply ≡ granted_octets text) × IsFinishedFor p signature serial b text
IsStampKept b _ serial reply = ⊥

-- a deposit stands with its octets and its token
abbrev pub IsTokenKept : History → ℕ → Bool → Type 0
IsTokenKept b number true = (text : List ℕ) × IsTokenFor number b text
IsTokenKept b number false = (text : List ℕ) × (token_of number b ≡ Some text)

abbrev pub IsDepositKept : History → Command → ℕ → Bool → Type 0
IsDepositKept b (Deposit a reading reference bytes) number is_new =
    (deposit_at number b ≡ Some (deposit_of number a.name reference bytes)) × IsTokenKept b number is_new
IsDepositKept b _ number is_new = ⊥

-- A deposit that was shown stands with its octets, and the token of a granted reply under the number that was asked
-- for. No other commands are answered so.
abbrev pub IsShownKept : History → Command → List ℕ → Type 0
IsShownKept b (Show a n) octets = (d : DepositRow) × (deposit_at n b ≡ Some d) × (octets ≡ d.bytes)
IsShownKept b (Token a n) octets = (text : List ℕ) × (octets ≡ granted_octets text) × (token_of n b ≡ Some text)
IsShownKept b _ octets = ⊥

-- what is done was entered; an abandonment enters nothing
abbrev pub IsDoneKept : History → Command → Type 0
IsDoneKept b (Grant a n reader) = Contains b (Granted n reader)
IsDoneKept b (Revoke a n reader) = Contains b (Revoked n reader)
IsDoneKept b (Succeed next) = Contains b (Installed (installed_by next.identity))
IsDoneKept b (Abandon p) = Unit {0}
IsDoneKept b _ = ⊥

-- calibrations and holds keep their numbers
abbrev pub IsNumberKept : History → Command → ℕ → Type 0
IsNumberKept b (Calibrate c) number = IsNumbered number c (calibrations b)
IsNumberKept b (Hold h) number = IsNumbered number h (holds b)
IsNumberKept b _ number = ⊥

-- What an answer acknowledged or showed still stands. A rejection, a refusal, and what is listed acknowledge nothing.
abbrev pub IsKept : History → Command → Answer → Type 0
IsKept b c (Stamped serial reply) = IsStampKept b c serial reply
IsKept b c (Rejected rule) = Unit {0}
IsKept b c (Begun p) = IsReservedFor p b
IsKept b c (Kept number is_new) = IsDepositKept b c number is_new
IsKept b c (Shown octets) = IsShownKept b c octets
IsKept b c (Listed rows) = Unit {0}
IsKept b c Done = IsDoneKept b c
IsKept b c (Numbered number) = IsNumberKept b c number
IsKept b c (Refused fault) = Unit {0}

-- a command was answered with what waits for its signature
abbrev pub WasBegun : PendingValue → List Told → Type 0
WasBegun p w = (c : Command) × Contains w (record { command = c; answer = Begun p })

-- a finish of it with this signature was granted
abbrev pub WasFinished : PendingValue → List ℕ → ℕ → List ℕ → List Told → Type 0
WasFinished p signature serial reply w =
    Contains w (record { command = Finish p signature; answer = Stamped serial reply })

-- What holds of the history of each journey.
pub record HasProperties (b : History) (w : List Told) : Type 0 where
  -- Serial numbers rise; each deposit is sealed, its owner's, and its stamp has the digest of its octets; each TSTInfo
  -- names nobody, or the identity of its serial number.
  pub sound : IsSoundInFull b
  pub rising : Along IsRising b
  pub kept : AllByRecursion (λ t. IsKept b t.command t.answer) w
  -- What was begun and finished stands over the TSTInfo that was reserved and the identity of its number, as other
  -- tokens do.
  pub finished : (p : PendingValue) (signature : List ℕ) (serial : ℕ) (reply : List ℕ) → WasBegun p w
      → WasFinished p signature serial reply w
      → (text : List ℕ) × (reply ≡ granted_octets text) × IsTokenFor serial b text
