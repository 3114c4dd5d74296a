-- The machine: which effects a command may have on a history, by what store, signer and memory answer.
use Rattle.std.specs.Prelude.{◌≡◌, ℕ, ◌+◌, ◌≤◌, ℤ, ◌<ℤ◌, nat_le, Bool, true, false, List, length, Option, Some}
use Rattle.std.specs.Prelude.{None, Result}
use Rattle.policy.specs.Record.{AccountValue}
use Rattle.tsp.specs.Request.{Spells}
use Rattle.cms.specs.declared.signer.SignerFault.{SignerFault}
use Rattle.book.specs.History.{Granted, Revoked, Held, History, ReservationValue, reservation_at}
use Rattle.book.specs.History.{holds, token_of, deposit_under}
use Rattle.book.specs.{Identities.latest_identity, Rights.seen_by, Rights.listed, Rows.DepositRow}
use Rattle.desk.specs.Outcome.{Outcome, Cause, cause_of}
use Rattle.desk.specs.Command.{Setting, PendingValue, Command, Stamp, Begin, Finish, Abandon, Deposit, Show, Token}
use Rattle.desk.specs.Command.{ListAll, Grant, Revoke, Calibrate, Hold, Succeed, Listed, Done, Refused}
use Rattle.desk.specs.Effects.{no_sight, Effect, only, fault_of, unless, stamp_found, begin_found, finish_effect}
use Rattle.desk.specs.Effects.{deposit_found, known_effect, name_of, show_effect, token_effect, right_effect}
use Rattle.desk.specs.Effects.{calibrate_effect, numbered, succeed_effect, no_seal, too_large}
use Rattle.desk.specs.Succession.{installed_by, is_latest, HasSubject}
use Rattle.desk.specs.{Findings.Finding, Findings.Finds, Texts.octets_for, Texts.request_for, Viewers.viewer_in}

-- the effect of what was found
abbrev pub HasFound : (Finding → Type 0) → (Finding → Effect) → Effect → Type 0
HasFound IsFound effect_of e = (f : Finding) × IsFound f × (e ≡ effect_of f)

-- a deposit by its reference: where its owner has used it, and where it hasn't
abbrev pub KeepsByReference : Setting → AccountValue → ℤ → List ℕ → List ℕ → Outcome → History → Option DepositRow
    → Effect → Type 0
KeepsByReference s a reading reference bytes o b (Some d) e = e ≡ known_effect bytes d
KeepsByReference s a reading reference bytes o b None e =
    Spells (octets_for s.file a bytes) (request_for s.file a bytes)
    × HasFound (Finds s.file (Some a) reading (octets_for s.file a bytes) o b)
    (deposit_found s a.name reference bytes (octets_for s.file a bytes) o b) e

-- the reference has to be looked up
abbrev pub KeepsOnceSearched : Setting → AccountValue → ℤ → List ℕ → List ℕ → Outcome → History → Option Cause → Effect
    → Type 0
KeepsOnceSearched s a reading reference bytes o b (Some cause) e = e ≡ only (Refused (fault_of cause))
KeepsOnceSearched s a reading reference bytes o b None e = KeepsByReference s a reading reference bytes o b
    (deposit_under a.name reference b) e

-- a deposit has at most 1,048,576 octets
abbrev pub KeepsWithinSize : Setting → AccountValue → ℤ → List ℕ → List ℕ → Outcome → History → Bool → Effect → Type 0
KeepsWithinSize s a reading reference bytes o b true e =
    KeepsOnceSearched s a reading reference bytes o b (cause_of o.searching) e
KeepsWithinSize s a reading reference bytes o b false e = e ≡ only too_large

-- the effect that a command has on a history
abbrev pub HasEffect : Setting → Command → Outcome → History → Effect → Type 0
HasEffect s (Stamp account reading octets) o b e =
    HasFound (Finds s.file account reading octets o b) (stamp_found s (name_of account) octets o b) e
HasEffect s (Begin account reading octets) o b e =
    HasFound (Finds s.file account reading octets o b) (begin_found s (name_of account) octets o b) e
HasEffect s (Finish p signature) o b e = e ≡ unless (no_seal o) (finish_effect p signature)
HasEffect s (Abandon p) o b e = e ≡ only Done
HasEffect s (Deposit a reading reference bytes) o b e = KeepsWithinSize s a reading reference bytes o b
    (nat_le (length bytes) 1_048_576) e
HasEffect s (Show a n) o b e = e ≡ unless (cause_of o.searching) (show_effect (no_sight o)
    (seen_by (viewer_in s.file a.name) n b))
HasEffect s (Token a n) o b e =
    e ≡ unless (cause_of o.searching) (token_effect (no_sight o) (token_of n b)
    (seen_by (viewer_in s.file a.name) n b))
HasEffect s (ListAll a) o b e = e ≡ unless (cause_of o.looking) (only (Listed
    (listed (viewer_in s.file a.name) b)))
HasEffect s (Grant a n reader) o b e =
    e ≡ unless (cause_of o.searching) (right_effect s.file a.name reader o (Granted n reader)
    (seen_by (viewer_in s.file a.name) n b))
HasEffect s (Revoke a n reader) o b e =
    e ≡ unless (cause_of o.searching) (right_effect s.file a.name reader o (Revoked n reader)
    (seen_by (viewer_in s.file a.name) n b))
HasEffect s (Calibrate c) o b e = e ≡ unless (cause_of o.adding) (calibrate_effect c b)
HasEffect s (Hold h) o b e = e ≡ unless (cause_of o.adding) (numbered (Held h) (length (holds b) + 1))
HasEffect s (Succeed next) o b e =
    e ≡ unless (cause_of o.looking) (succeed_effect o (installed_by next.identity)
    (is_latest (installed_by next.identity) (latest_identity b)))

-- The signer moves by exactly one call, on the text that it is asked to sign, and else it stays.
abbrev pub Moves : {S : Type 0} → (S → List ℕ → Result (List ℕ) SignerFault → S → Type 0) → Option (List ℕ)
    → Result (List ℕ) SignerFault → S → S → Type 0
Moves signs None answer before after = after ≡ before
Moves signs (Some text) answer before after = signs before text answer after

-- the history holds the reservation of what is pending, and it isn't sealed
pub record IsWaiting (p : PendingValue) (b : History) : Type 0 where
  pub reservation : ReservationValue
  pub reserved : reservation_at p.serial b ≡ Some reservation
  pub tst : reservation.tst ≡ p.tst
  pub open_yet : token_of p.serial b ≡ None

-- a signature has 1 to 4,096 octets
abbrev pub IsSignature : List ℕ → Type 0
IsSignature signature = (1 ≤ length signature) × (length signature ≤ 4096)

-- what the caller of a command sees to
abbrev pub IsMet : Command → History → Type 0
IsMet (Finish p signature) b = IsWaiting p b × IsSignature signature
IsMet (Abandon p) b = IsWaiting p b
IsMet (Calibrate c) b = c.uncertainty ≤ 1_000_000_000_000
IsMet (Hold h) b = h.from <ℤ h.to
IsMet (Succeed next) b = HasSubject next.identity
IsMet _ b = Unit {0}
