-- What is promised of the machine: of grants and rejections, of journeys that go on, and of an account's commands.
use Rattle.std.specs.Prelude.{◌≡◌, ℕ, ◌+◌, ◌<◌, ◌≤◌, ◌⊎◌, ℤ, nat_le, true, false, List, [], ◌∷◌, ◌++◌, filter, length}
use Rattle.std.specs.Prelude.{Option, Some, None, Result, Ok}
use Rattle.std.specs.{List.Contains, Str.bytes_eq}
use Rattle.policy.specs.Record.{AccountValue}
use Rattle.tsp.specs.declared.rule.Rule.TheVariants.{System}
use Rattle.tsp.specs.{Granted.granted_octets, Rules.IsFirstFailing, declared.rule.Rule.Rule}
use Rattle.cms.specs.{SignedData.attribute_text, SignedData.token, declared.signer.SignerFault.SignerFault}
use Rattle.book.specs.History.{Entry, Reserved, Deposited, History, ReservationValue, stamps, deposits, holds}
use Rattle.book.specs.History.{latest_calibration, greatest_serial, deposit_at, deposit_under}
use Rattle.book.specs.Identities.{latest_identity, identity_at_reservation}
use Rattle.book.specs.{Rows.DepositRow, Readers.Viewer, Sound.greatest_number, Values.deposit_of}
use Rattle.desk.specs.Outcome.{Outcome, Cause, cause_of, cause_of_signing}
use Rattle.desk.specs.Findings.{StampPlan, IsAllowed, HoldsAt, HoldsUnasked}
use Rattle.desk.specs.Command.{Setting, PendingValue, Command, Stamp, Begin, Finish, Abandon, Deposit, Show, Token}
use Rattle.desk.specs.Command.{ListAll, Grant, Revoke, Calibrate, Hold, Succeed, Answer, Stamped, Rejected, Begun}
use Rattle.desk.specs.Texts.{tst_of, reservation_of, pending_of, token_with, gives_certificate, request_for, octets_for}
use Rattle.desk.specs.Effects.{Effect, next_reservation, name_of}
use Rattle.desk.specs.MachineRuns.{Told, after, cut, Runs}
use Rattle.desk.specs.{Agreement.seen_at, Agreement.Agree, Agreement.IsCommandOf, Command.Kept, Command.Refused}
use Rattle.desk.specs.{Command.setting_after, declared.fault.Fault.Fault, MachineStep.HasEffect, MachineStep.IsMet}
use Rattle.desk.specs.{Serials.serials_of, Succession.installed_by, Succession.IsInForce, Viewers.viewer_in}
use Rattle.desk.specs.declared.fault.Fault.TheVariants as fault

-- A grant: no rule of 1 to 11 fails, the serial number is the greatest plus one, and the reply has the token over the
-- TSTInfo of the plan under that number, with the signature that the signer answered.
pub record IsGrant (s : Setting) (account : Option AccountValue) (reading : ℤ) (octets : List ℕ) (o : Outcome)
    (b : History) (serial : ℕ) (reply : List ℕ) : Type 0 where
  pub plan : StampPlan
  pub allowed : IsAllowed s.file account reading octets b plan
  pub number : serial ≡ greatest_serial b + 1
  pub signature : List ℕ
  pub signed : o.signing ≡ Ok signature
  pub text : reply ≡ granted_octets (token_with (pending_of s plan (next_reservation s
      (name_of account) plan octets b)) signature)

-- the calls of a stamp, in their order: why each had no answer
abbrev pub causes_of : Outcome → List (Option Cause)
causes_of o =
    cause_of o.looking ∷ cause_of o.counting ∷ cause_of o.growing ∷ cause_of o.adding ∷ cause_of_signing o.signing
    ∷ cause_of o.wrapping ∷ cause_of o.sealing ∷ []

-- the store, the signer or memory didn't answer
abbrev pub IsUnanswered : Outcome → Type 0
IsUnanswered o = (cause : Cause) × Contains (causes_of o) (Some cause)

-- A rejection: by the first rule that fails; or by rule 12, where the rules 1 to 9 hold, and a call had no answer or
-- the serial numbers are used up.
abbrev pub IsRejection : Setting → Option AccountValue → ℤ → List ℕ → Outcome → History → Rule → Type 0
IsRejection s account reading octets o b rule = IsFirstFailing (HoldsAt s.file account reading octets b) rule
    ⊎ ((rule ≡ System) × ((unasked : Rule) → HoldsUnasked s.file account octets unasked)
    × (IsUnanswered o ⊎ (greatest_number ≤ greatest_serial b)))

-- What `Begin` answers waits for the signature of its plan's text: no rule of 1 to 11 fails, the serial number is the
-- greatest plus one, and the TSTInfo, the certificate exactly where it is asked for, identity and algorithm are those
-- of the plan and the setting.
pub record IsBegunOf (s : Setting) (account : Option AccountValue) (reading : ℤ) (octets : List ℕ) (b : History)
    (p : PendingValue) : Type 0 where
  pub plan : StampPlan
  pub allowed : IsAllowed s.file account reading octets b plan
  pub number : p.serial ≡ greatest_serial b + 1
  pub tst : p.tst ≡ tst_of s plan p.serial
  pub certificate : p.certificate ≡ plan.request.cert_req
  pub identity : p.identity ≡ s.in_force.identity
  pub algorithm : p.algorithm ≡ s.in_force.algorithm

-- What `Finish` grants: the token over the TSTInfo that waited, under its serial number, with the signature that was
-- handed in, and with the identity and algorithm with which it was begun.
pub record IsFinished (p : PendingValue) (signature : List ℕ) (serial : ℕ) (reply : List ℕ) : Type 0 where
  pub number : serial ≡ p.serial
  pub text : reply ≡ granted_octets (token p.identity p.algorithm p.tst signature p.certificate)

-- A new deposit: no rule of 1 to 11 fails of the one request of its octets, its number is the greatest serial number
-- plus one, and it stands with the token over the TSTInfo of the plan and the signer's answer, which has the
-- certificate exactly where the owner's default policy gives it out.
pub record IsDeposited (s : Setting) (a : AccountValue) (reading : ℤ) (reference bytes : List ℕ) (o : Outcome)
    (b : History) (e : Effect) (number : ℕ) : Type 0 where
  pub plan : StampPlan
  pub allowed : IsAllowed s.file (Some a) reading (octets_for s.file a bytes) b plan
  pub request : plan.request ≡ request_for s.file a bytes
  pub next : number ≡ greatest_serial b + 1
  pub signature : List ℕ
  pub signed : o.signing ≡ Ok signature
  pub adds : e.adds ≡ Deposited (deposit_of number a.name reference bytes) (token s.in_force.identity
      s.in_force.algorithm (tst_of s plan number) signature (gives_certificate s.file a))
      ∷ Reserved (reservation_of s a.name plan (octets_for s.file a bytes) number) ∷ []

-- A stamp's answer is of its plan, or by the first rule that fails. It isn't answered otherwise.
abbrev pub IsStampOfPlan : Setting → Option AccountValue → ℤ → List ℕ → Outcome → History → Answer → Type 0
IsStampOfPlan s account reading octets o b (Stamped serial reply) = IsGrant s account reading octets o b serial reply
IsStampOfPlan s account reading octets o b (Rejected rule) = IsRejection s account reading octets o b rule
IsStampOfPlan s account reading octets o b _ = ⊥

-- and so is what is begun, or it is refused
abbrev pub IsBeginningOfPlan : Setting → Option AccountValue → ℤ → List ℕ → History → Answer → Type 0
IsBeginningOfPlan s account reading octets b (Begun p) = IsBegunOf s account reading octets b p
IsBeginningOfPlan s account reading octets b (Rejected rule) =
    IsFirstFailing (HoldsAt s.file account reading octets b) rule
IsBeginningOfPlan s account reading octets b (Refused f) = Unit {0}
IsBeginningOfPlan s account reading octets b _ = ⊥

abbrev pub IsFinishOfPlan : PendingValue → List ℕ → Answer → Type 0
IsFinishOfPlan p signature (Stamped serial reply) = IsFinished p signature serial reply
IsFinishOfPlan p signature (Refused f) = Unit {0}
IsFinishOfPlan p signature _ = ⊥

-- A deposit that is refused by a rule, is by the first that fails; a conflict is with other octets under the reference;
-- and what is too large has more than 1,048,576 octets.
abbrev pub IsRefusalOfPlan : Setting → AccountValue → ℤ → List ℕ → List ℕ → History → Fault → Type 0
IsRefusalOfPlan s a reading reference bytes b (fault.Rejected rule) =
    IsFirstFailing (HoldsAt s.file (Some a) reading (octets_for s.file a bytes) b) rule
IsRefusalOfPlan s a reading reference bytes b fault.Conflict =
    (d : DepositRow) × (deposit_under a.name reference b ≡ Some d) × (bytes_eq d.bytes bytes ≡ false)
IsRefusalOfPlan s a reading reference bytes b fault.TooLarge = nat_le (length bytes) 1_048_576 ≡ false
IsRefusalOfPlan s a reading reference bytes b fault.Memory = Unit {0}
IsRefusalOfPlan s a reading reference bytes b fault.Store = Unit {0}
IsRefusalOfPlan s a reading reference bytes b fault.Signer = Unit {0}
IsRefusalOfPlan s a reading reference bytes b _ = ⊥

abbrev pub IsDepositOfPlan : Setting → AccountValue → ℤ → List ℕ → List ℕ → Outcome → History → Effect → Answer
    → Type 0
IsDepositOfPlan s a reading reference bytes o b e (Kept number true) =
    IsDeposited s a reading reference bytes o b e number
IsDepositOfPlan s a reading reference bytes o b e (Kept number false) =
    deposit_at number b ≡ Some (deposit_of number a.name reference bytes)
IsDepositOfPlan s a reading reference bytes o b e (Refused f) = IsRefusalOfPlan s a reading reference bytes b f
IsDepositOfPlan s a reading reference bytes o b e _ = ⊥

-- Of grants, rejections and deposits: each is of its plan, or by the first rule that fails. The other commands have no
-- plan.
abbrev pub IsOfPlan : Setting → Command → Outcome → History → Effect → Answer → Type 0
IsOfPlan s (Stamp account reading octets) o b e answer = IsStampOfPlan s account reading octets o b answer
IsOfPlan s (Begin account reading octets) o b e answer = IsBeginningOfPlan s account reading octets b answer
IsOfPlan s (Finish p signature) o b e answer = IsFinishOfPlan p signature answer
IsOfPlan s (Abandon p) o b e answer = Unit {0}
IsOfPlan s (Deposit a reading reference bytes) o b e answer = IsDepositOfPlan s a reading reference bytes o b e answer
IsOfPlan s (Show a n) o b e answer = Unit {0}
IsOfPlan s (Token a n) o b e answer = Unit {0}
IsOfPlan s (ListAll a) o b e answer = Unit {0}
IsOfPlan s (Grant a n reader) o b e answer = Unit {0}
IsOfPlan s (Revoke a n reader) o b e answer = Unit {0}
IsOfPlan s (Calibrate c) o b e answer = Unit {0}
IsOfPlan s (Hold h) o b e answer = Unit {0}
IsOfPlan s (Succeed next) o b e answer = Unit {0}

-- What is given out to be signed is the text of the reservation that the same command adds first, under a serial number
-- above all that were reserved before.
pub record IsReservedText (s : Setting) (e : Effect) (b : History) (text : List ℕ) : Type 0 where
  pub reservation : ReservationValue
  pub later : List Entry
  pub adds : e.adds ≡ later ++ (Reserved reservation ∷ [])
  -- no other is reserved by the command
  pub alone : serials_of e.adds ≡ reservation.serial ∷ []
  pub above : greatest_serial b < reservation.serial
  pub text_is : text ≡ attribute_text s.in_force.identity reservation.tst
  -- that identity is then the one of the serial number, where it was installed last before
  pub signer : IsInForce s.in_force b
      → identity_at_reservation reservation.serial (e.adds ++ b) ≡ Some (installed_by s.in_force.identity)

-- What waits for its signature: that reservation's, with its serial number and TSTInfo.
pub record IsPendingOf (s : Setting) (e : Effect) (b : History) (p : PendingValue) : Type 0 where
  pub of_reservation : IsReservedText s e b (attribute_text p.identity p.tst)
  pub number : p.serial ≡ of_reservation.reservation.serial
  pub tst : p.tst ≡ of_reservation.reservation.tst

-- a run that goes to its end, or is cut in one of its commands by a stop, after which no desk is open
abbrev pub Continues : Setting → List Command → List Outcome → History → List Told → History → Option Setting
    → List Told → Type 0
Continues s [] [] b w b' x' w' = (b' ≡ b) × (x' ≡ Some s) × (w' ≡ w)
Continues s (c ∷ cs) (o ∷ os) b w b' x' w' =
    (e : Effect) × HasEffect s c o b e
    × (((k : ℕ) × (b' ≡ cut k e b) × (x' ≡ None) × (w' ≡ w)) ⊎ Continues (setting_after s c e.says) cs os (after e b)
    (record { command = c; answer = e.says } ∷ w) b' x' w')
Continues s [] (o ∷ os) b w b' x' w' = ⊥
Continues s (c ∷ cs) [] b w b' x' w' = ⊥

-- what the caller of each command sees to, of the history at its moment
abbrev pub AreMet : Setting → List Command → List Outcome → History → Type 0
AreMet s (c ∷ cs) (o ∷ os) b =
    IsMet c b × ((e : Effect) → HasEffect s c o b e → AreMet (setting_after s c e.says) cs os (after e b))
AreMet s [] os b = Unit {0}
AreMet s (c ∷ cs) [] b = Unit {0}

-- each command is the account's own
abbrev pub AreCommandsOf : List ℕ → List Command → Type 0
AreCommandsOf account [] = Unit {0}
AreCommandsOf account (c ∷ cs) = IsCommandOf account c × AreCommandsOf account cs

-- from another history the same answers, with the same moves of the signer, and a history that agrees with the
-- first's
pub record RunsAlike {S : Type 0} (signs : S → List ℕ → Result (List ℕ) SignerFault → S
    → Type 0) (account : List ℕ) (s : Setting) (cs : List Command)
    (os : List Outcome) (c : History) (x : S) (answers : List Answer) (b' : History) (x' : S) : Type 0 where
  pub left : History
  pub runs : Runs signs s cs os c x answers left x'
  pub agree : Agree (viewer_in s.file account) b' left

-- the command is another account's
abbrev pub IsCommandOfOther : List ℕ → Command → Type 0
IsCommandOfOther account (Stamp None reading octets) = ⊥
IsCommandOfOther account (Stamp (Some a) reading octets) = bytes_eq a.name account ≡ false
IsCommandOfOther account (Begin by reading octets) = ⊥
IsCommandOfOther account (Finish p signature) = ⊥
IsCommandOfOther account (Abandon p) = ⊥
IsCommandOfOther account (Deposit a reading reference bytes) = bytes_eq a.name account ≡ false
IsCommandOfOther account (Show a n) = bytes_eq a.name account ≡ false
IsCommandOfOther account (Token a n) = bytes_eq a.name account ≡ false
IsCommandOfOther account (ListAll a) = bytes_eq a.name account ≡ false
IsCommandOfOther account (Grant a n reader) = bytes_eq a.name account ≡ false
IsCommandOfOther account (Revoke a n reader) = bytes_eq a.name account ≡ false
IsCommandOfOther account (Calibrate c) = ⊥
IsCommandOfOther account (Hold h) = ⊥
IsCommandOfOther account (Succeed next) = ⊥

-- the command gives or takes a right to the deposit with this number
abbrev pub Concerns : ℕ → Command → Type 0
Concerns number (Grant a n reader) = n ≡ number
Concerns number (Revoke a n reader) = n ≡ number
Concerns number _ = ⊥

-- Of what agreement for who asks names, all stays but the greatest serial number, the last genTime and deposits to
-- which a right is given or taken.
pub record StaysFor (viewer : Viewer) (concerned : ℕ → Type 0) (b c : History) : Type 0 where
  pub own_stamps : filter (λ s. bytes_eq s.account viewer.name) (stamps b)
      ≡ filter (λ s. bytes_eq s.account viewer.name) (stamps c)
  pub own_deposits : filter (λ d. bytes_eq d.owner viewer.name) (deposits b)
      ≡ filter (λ d. bytes_eq d.owner viewer.name) (deposits c)
  pub seen : (number : ℕ) → (concerned number → ⊥) → seen_at viewer number b ≡ seen_at viewer number c
  pub calibration : latest_calibration b ≡ latest_calibration c
  pub holding : holds b ≡ holds c
  pub identity : latest_identity b ≡ latest_identity c
