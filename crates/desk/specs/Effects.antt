-- What a command adds to the history, what it has signed, and what it answers.
use Rattle.std.specs.Prelude.{ℕ, ◌+◌, nat_le, Bool, true, false, if◌then◌else◌, List, [], ◌∷◌, map, length}
use Rattle.std.specs.Prelude.{Option, Some, None, Result, Ok, Err}
use Rattle.std.specs.{Option.is_some, Str.bytes_eq}
use Rattle.policy.specs.{Record.AccountValue, Record.PolicyValue, Kinds.is_among, LookUp.group_named}
use Rattle.tsp.specs.{declared.rule.Rule.Rule, declared.rule.Rule.TheVariants.System, Granted.granted_octets}
use Rattle.cms.specs.{SignedData.attribute_text, declared.signer.SignerFault.SignerFault}
use Rattle.book.specs.History.{Entry, Reserved, Sealed, Deposited, Calibrated, Installed, History, ReservationValue}
use Rattle.book.specs.History.{CalibrationValue, InstalledValue, greatest_serial, calibrations}
use Rattle.book.specs.{History.latest_calibration, Readers.Reader, Readers.Account, Readers.Group, Rows.DepositRow}
use Rattle.book.specs.{Sound.greatest_number, Sound.is_backwards, Values.deposit_of}
use Rattle.desk.specs.Outcome.{Outcome, Cause, OfMemory, OfStore, OfSigner, cause_of, cause_of_signing, first_cause}
use Rattle.desk.specs.Findings.{StampPlan, Finding, Fails, Unanswered, Allowed}
use Rattle.desk.specs.Command.{Setting, PendingValue, Answer, Stamped, Rejected, Begun, Kept, Shown, Done, Numbered}
use Rattle.desk.specs.Texts.{reservation_of, pending_of, token_with}
use Rattle.desk.specs.{Outcome.Refusal, Outcome.ByRule, Outcome.ByCause, Command.Refused, declared.fault.Fault.Fault}
use Rattle.desk.specs.declared.fault.Fault.TheVariants as fault

-- the newest entry first; the text that the signer is asked to sign
pub record Effect : Type 0 where
  pub adds : List Entry
  pub asks : Option (List ℕ)
  pub says : Answer

-- an answer that changes nothing
abbrev pub only : Answer → Effect
only answer = record { adds = []; asks = None; says = answer }

abbrev pub fault_of : Cause → Fault
fault_of OfMemory = fault.Memory
fault_of OfStore = fault.Store
fault_of OfSigner = fault.Signer

abbrev pub fault_by : Refusal → Fault
fault_by (ByRule rule) = fault.Rejected rule
fault_by (ByCause cause) = fault_of cause

-- the rule by which a stamp is rejected that is refused so
abbrev pub rule_by : Refusal → Rule
rule_by (ByRule rule) = rule
rule_by (ByCause cause) = System

-- the answer, where each call that it needs was answered
abbrev pub unless : Option Cause → Effect → Effect
unless None effect = effect
unless (Some cause) effect = only (Refused (fault_of cause))

-- how far a stamp by a plan comes
pub data Stamping : Type 0 where
  -- nothing is reserved
  Unreserved : Cause → Stamping
  -- the reservation stays without its token
  Void : ReservationValue → Cause → Stamping
  Sealing : ReservationValue → List ℕ → Stamping

-- why no serial number could be reserved: they are used up, memory wanted, or the commit was refused
abbrev pub no_number : Outcome → History → Option Cause
no_number o b =
    first_cause ((if nat_le greatest_number (greatest_serial b) then Some OfStore else None) ∷ cause_of o.growing
    ∷ cause_of o.adding ∷ [])

-- why a reservation isn't sealed after its signature
abbrev pub no_seal : Outcome → Option Cause
no_seal o = first_cause (cause_of o.wrapping ∷ cause_of o.sealing ∷ [])

-- the reservation under the greatest serial number plus one
abbrev pub next_reservation : Setting → List ℕ → StampPlan → List ℕ → History → ReservationValue
next_reservation s account plan octets b = reservation_of s account plan octets (greatest_serial b + 1)

abbrev pub sealed_or_void : ReservationValue → List ℕ → Option Cause → Stamping
sealed_or_void r token None = Sealing r token
sealed_or_void r token (Some cause) = Void r cause

abbrev pub signed_or_void : PendingValue → ReservationValue → Result (List ℕ) SignerFault → Outcome → Stamping
signed_or_void p r (Ok signature) o = sealed_or_void r (token_with p signature) (no_seal o)
signed_or_void p r (Err fault) o = sealed_or_void r [] (cause_of_signing (Err fault))

abbrev pub stamping_of : Setting → List ℕ → StampPlan → List ℕ → Outcome → History → Option Cause → Stamping
stamping_of s account plan octets o b (Some cause) = Unreserved cause
stamping_of s account plan octets o b None =
    let r = next_reservation s account plan octets b in signed_or_void (pending_of s plan r) r o.signing o

-- what a token is kept in, under its serial number, and what is answered then
pub record Keeping : Type 0 where
  pub adds : ℕ → List ℕ → Entry
  pub says : ℕ → List ℕ → Answer

-- its seal, and the reply with it
abbrev pub in_seal : Keeping
in_seal = record {
  adds = λ serial token. Sealed serial token;
  says = λ serial token. Stamped serial (granted_octets token);
}

-- one entry with a deposit
abbrev pub in_deposit : List ℕ → List ℕ → List ℕ → Keeping
in_deposit owner reference bytes = record {
  adds = λ serial token. Deposited (deposit_of serial owner reference bytes) token;
  says = λ serial token. Kept serial true;
}

-- What a stamp is made for: how its token is kept, and what is answered where a rule fails, and where there is no token
-- for another cause.
pub record Purpose : Type 0 where
  pub keeping : Keeping
  pub rejects : Rule → Answer
  pub refuses : Cause → Answer

abbrev pub refused_for : Purpose → Refusal → Answer
refused_for u (ByRule rule) = u.rejects rule
refused_for u (ByCause cause) = u.refuses cause

-- the reply is the token, the rejection by the first rule that fails, or the rejection by rule 12
abbrev pub for_reply : Purpose
for_reply = record { keeping = in_seal; rejects = λ rule. Rejected rule; refuses = λ cause. Rejected System }

-- the same where the signature is made elsewhere
abbrev pub for_parts : Purpose
for_parts = record {
  keeping = in_seal;
  rejects = λ rule. Rejected rule;
  refuses = λ cause. Refused (fault_of cause);
}

abbrev pub for_deposit : List ℕ → List ℕ → List ℕ → Purpose
for_deposit owner reference bytes = record {
  keeping = in_deposit owner reference bytes;
  rejects = λ rule. Refused (fault.Rejected rule);
  refuses = λ cause. Refused (fault_of cause);
}

abbrev pub purpose_effect : Purpose → Setting → Stamping → Effect
purpose_effect u s (Unreserved cause) = only (u.refuses cause)
purpose_effect u s (Void r cause) = record {
  adds = Reserved r ∷ [];
  asks = Some (attribute_text s.in_force.identity r.tst);
  says = u.refuses cause;
}
purpose_effect u s (Sealing r token) = record {
  adds = u.keeping.adds r.serial token ∷ Reserved r ∷ [];
  asks = Some (attribute_text s.in_force.identity r.tst);
  says = u.keeping.says r.serial token;
}

abbrev pub purpose_found : Purpose → Setting → List ℕ → List ℕ → Outcome → History → Finding → Effect
purpose_found u s account octets o b (Fails rule) = only (u.rejects rule)
purpose_found u s account octets o b (Unanswered cause) = only (u.refuses cause)
purpose_found u s account octets o b (Allowed plan) =
    purpose_effect u s (stamping_of s account plan octets o b (no_number o b))

abbrev pub name_of : Option AccountValue → List ℕ
name_of None = []
name_of (Some account) = account.name

-- Stamp
abbrev pub stamp_effect : Setting → Stamping → Effect
stamp_effect s stamping = purpose_effect for_reply s stamping

abbrev pub stamp_found : Setting → List ℕ → List ℕ → Outcome → History → Finding → Effect
stamp_found s account octets o b found = purpose_found for_reply s account octets o b found

-- Begin: the reservation alone, and what waits for its signature
abbrev pub begin_effect : Setting → List ℕ → StampPlan → List ℕ → History → Option Cause → Effect
begin_effect s account plan octets b (Some cause) = only (Refused (fault_of cause))
begin_effect s account plan octets b None =
    let r = next_reservation s account plan octets b in
    record { adds = Reserved r ∷ []; asks = None; says = Begun (pending_of s plan r) }

abbrev pub begin_found : Setting → List ℕ → List ℕ → Outcome → History → Finding → Effect
begin_found s account octets o b (Fails rule) = only (Rejected rule)
begin_found s account octets o b (Unanswered cause) = only (Refused (fault_of cause))
begin_found s account octets o b (Allowed plan) = begin_effect s account plan octets b (no_number o b)

-- Finish: the token over the signature that is handed in
abbrev pub finish_effect : PendingValue → List ℕ → Effect
finish_effect p signature = record {
  adds = Sealed p.serial (token_with p signature) ∷ [];
  asks = None;
  says = Stamped p.serial (granted_octets (token_with p signature));
}

-- Deposit
abbrev pub deposit_effect : Setting → List ℕ → List ℕ → List ℕ → Stamping → Effect
deposit_effect s owner reference bytes stamping = purpose_effect (for_deposit owner reference bytes) s stamping

abbrev pub deposit_found : Setting → List ℕ → List ℕ → List ℕ → List ℕ → Outcome → History → Finding → Effect
deposit_found s owner reference bytes octets o b found =
    purpose_found (for_deposit owner reference bytes) s owner octets o b found

abbrev pub too_large : Answer
too_large = Refused fault.TooLarge

-- under a known reference the old number, for the same octets alone
abbrev pub known_effect : List ℕ → DepositRow → Effect
known_effect bytes d = only (if bytes_eq d.bytes bytes then Kept d.serial false else Refused fault.Conflict)

-- why what is visible couldn't be shown
abbrev pub no_sight : Outcome → Option Cause
no_sight o = first_cause (cause_of o.looking ∷ cause_of o.growing ∷ [])

-- Show and Token: what is visible alone
abbrev pub show_effect : Option Cause → Option DepositRow → Effect
show_effect refused None = only (Refused fault.NotHere)
show_effect refused (Some d) = unless refused (only (Shown d.bytes))

abbrev pub reply_or_nothing : Option (List ℕ) → Answer
reply_or_nothing None = Refused fault.NotHere
reply_or_nothing (Some token) = Shown (granted_octets token)

abbrev pub token_effect : Option Cause → Option (List ℕ) → Option DepositRow → Effect
token_effect refused token None = only (Refused fault.NotHere)
token_effect refused token (Some d) = unless refused (only (reply_or_nothing token))

-- an account of the file has the name
abbrev pub has_account : PolicyValue → List ℕ → Bool
has_account file name = is_among (map (λ a. a.name) file.accounts) name

-- a group of the file has the name
abbrev pub has_group : PolicyValue → List ℕ → Bool
has_group file name = is_some (group_named file name)

-- What is against a right that the owner gives or takes: the file has no account or no group of that name, or it is the
-- owner itself. A group may hold the owner.
abbrev pub objection : PolicyValue → List ℕ → Reader → Option Fault
objection file owner (Account name) =
    if has_account file name then (if bytes_eq name owner then Some fault.SelfGrant else None)
    else Some fault.UnknownReader
objection file owner (Group name) = if has_group file name then None else Some fault.UnknownGroup

-- an entry that is accepted
abbrev pub accepted : Entry → Effect
accepted entry = record { adds = entry ∷ []; asks = None; says = Done }

-- the same, under its number
abbrev pub numbered : Entry → ℕ → Effect
numbered entry number = record { adds = entry ∷ []; asks = None; says = Numbered number }

abbrev pub unless_against : Option Fault → Effect → Effect
unless_against None effect = effect
unless_against (Some f) effect = only (Refused f)

-- Grant and Revoke: the entry, by the owner alone
abbrev pub right_effect : PolicyValue → List ℕ → Reader → Outcome → Entry → Option DepositRow → Effect
right_effect file account reader o entry None = only (Refused fault.NotHere)
right_effect file account reader o entry (Some d) =
    unless (cause_of o.looking) (if bytes_eq d.owner account then unless_against (objection file account reader)
    (unless (cause_of o.adding) (accepted entry))
    else only (Refused fault.NotOwner))

-- Calibrate: the entry under the next number, unless its reading is before that of the latest
abbrev pub calibrate_effect : CalibrationValue → History → Effect
calibrate_effect c b =
    if is_backwards c (latest_calibration b) then only (Refused fault.Store)
    else numbered (Calibrated c) (length (calibrations b) + 1)

-- Succeed, and an opening: the identity is installed, unless it is the latest already
abbrev pub succeed_effect : Outcome → InstalledValue → Bool → Effect
succeed_effect o i true = only Done
succeed_effect o i false = unless (cause_of o.adding) (accepted (Installed i))
