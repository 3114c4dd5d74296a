-- What holds of each way out of a command holds of its effect.
use Rattle.std.proofs.Common.{◌≡◌, cond, ℤ, Bool, true, false, List, ℕ, Option, Some, None, Result, Ok, Err, refl, sym}
use Rattle.std.proofs.Common.{subst}
use Rattle.std.specs.Str.{bytes_eq}
use Rattle.policy.specs.Record.{AccountValue, PolicyValue}
use Rattle.tsp.specs.{Request.Spells, declared.rule.Rule.Rule}
use Rattle.cms.specs.declared.signer.SignerFault.{SignerFault}
use Rattle.cms.specs.declared.signer.SignerFault.TheVariants as signer
use Rattle.book.specs.History.{Entry, History, ReservationValue, deposit_under}
use Rattle.book.specs.{Readers.Reader, Rows.DepositRow}
use Rattle.desk.specs.Outcome.{Outcome, Cause, OfMemory, OfSigner, cause_of}
use Rattle.desk.specs.Findings.{StampPlan, Finding, Fails, Unanswered, Allowed, Finds}
use Rattle.desk.specs.Texts.{pending_of, token_with, octets_for, request_for}
use Rattle.desk.specs.Effects.{Effect, only, unless, fault_of, objection, accepted, unless_against, right_effect}
use Rattle.desk.specs.Effects.{Purpose, Void, Sealing, no_number, no_seal, next_reservation, sealed_or_void}
use Rattle.desk.specs.Effects.{signed_or_void, stamping_of, purpose_effect, purpose_found, deposit_found, known_effect}
use Rattle.desk.specs.MachineStep.{KeepsByReference, KeepsOnceSearched, KeepsWithinSize}
use Rattle.desk.specs.{Command.Setting, Command.PendingValue, Command.Refused, declared.fault.Fault.Fault}
use Rattle.desk.specs.declared.fault.Fault.TheVariants as fault

pub if_has : (P : Effect → Type 0) (t : Bool) (d e : Effect) → P d → P e → P (cond t d e)
if_has P true d e h k = h
if_has P false d e h k = k

where_has : (P : Effect → Type 0) (t : Bool) (d e : Effect) → (t ≡ true → P d) → P e → P (cond t d e)
where_has P true d e h k = h refl
where_has P false d e h k = k

pub unless_has : (P : Effect → Type 0) → ((f : Fault) → P (only (Refused f))) → (refused : Option Cause) (e : Effect)
    → P e → P (unless refused e)
unless_has P refusal None e h = h
unless_has P refusal (Some cause) e h = refusal (fault_of cause)

against_has : (P : Effect → Type 0) → ((f : Fault) → P (only (Refused f))) → (against : Option Fault) (e : Effect)
    → P e → P (unless_against against e)
against_has P refusal None e h = h
against_has P refusal (Some f) e h = refusal f

-- a right that is entered is that of the deposit's owner
pub right_has : (P : Effect → Type 0) → ((f : Fault) → P (only (Refused f))) → (file : PolicyValue) (account : List ℕ)
    (reader : Reader) (o : Outcome) (entry : Entry) (seen : Option DepositRow)
    → ((d : DepositRow) → seen ≡ Some d → bytes_eq d.owner account ≡ true → P (accepted entry))
    → P (right_effect file account reader o entry seen)
right_has P refusal file account reader o entry None h = refusal fault.NotHere
right_has P refusal file account reader o entry (Some d) h =
    let added = unless (cause_of o.adding) (accepted entry) in
    let owned = unless_against (objection file account reader) added in
    let other : Effect = only (Refused fault.NotOwner) in
    unless_has P refusal (cause_of o.looking) (cond (bytes_eq d.owner account) owned other)
    (where_has P (bytes_eq d.owner account) owned other
    (λ owns. against_has P refusal (objection file account reader) added
    (unless_has P refusal (cause_of o.adding) (accepted entry) (h d refl owns)))
    (refusal fault.NotOwner))

-- A stamp, whatever it is made for: where no rule fails and a serial number is left, it is reserved, and has its token
-- or none.
abbrev pub HasBoth : (Effect → Type 0) → Purpose → Setting → ReservationValue → Type 0
HasBoth Q u s r =
    ((cause : Cause) → Q (purpose_effect u s (Void r cause)))
    × ((token : List ℕ) → Q (purpose_effect u s (Sealing r token)))

sealed_has : (Q : Effect → Type 0) (u : Purpose) (s : Setting) (r : ReservationValue) (token : List ℕ)
    → HasBoth Q u s r → (why : Option Cause) → Q (purpose_effect u s (sealed_or_void r token why))
sealed_has Q u s r token both None = both.1 token
sealed_has Q u s r token both (Some cause) = both.0 cause

signed_has : (Q : Effect → Type 0) (u : Purpose) (s : Setting) (p : PendingValue) (r : ReservationValue) (o : Outcome)
    → HasBoth Q u s r → (signing : Result (List ℕ) SignerFault)
    → Q (purpose_effect u s (signed_or_void p r signing o))
signed_has Q u s p r o both (Ok signature) = sealed_has Q u s r (token_with p signature) both (no_seal o)
signed_has Q u s p r o both (Err signer.Failed) = both.0 OfSigner
signed_has Q u s p r o both (Err signer.Memory) = both.0 OfMemory

planned_has : (Q : Effect → Type 0) (u : Purpose) (s : Setting) (name octets : List ℕ) (o : Outcome) (b : History)
    (plan : StampPlan) → ((cause : Cause) → Q (only (u.refuses cause))) → (why : Option Cause)
    → (why ≡ None → HasBoth Q u s (next_reservation s name plan octets b))
    → Q (purpose_effect u s (stamping_of s name plan octets o b why))
planned_has Q u s name octets o b plan refuses (Some cause) both = refuses cause
planned_has Q u s name octets o b plan refuses None both =
    let r = next_reservation s name plan octets b in signed_has Q u s (pending_of s plan r) r o (both refl) o.signing

pub stamp_has : (Q : Effect → Type 0) (u : Purpose) (s : Setting) (name octets : List ℕ) (o : Outcome) (b : History)
    → ((rule : Rule) → Q (only (u.rejects rule))) → ((cause : Cause) → Q (only (u.refuses cause))) → (f : Finding)
    → ((plan : StampPlan) → f ≡ Allowed plan → no_number o b ≡ None
    → HasBoth Q u s (next_reservation s name plan octets b)) → Q (purpose_found u s name octets o b f)
stamp_has Q u s name octets o b rejects refuses (Fails rule) both = rejects rule
stamp_has Q u s name octets o b rejects refuses (Unanswered cause) both = refuses cause
stamp_has Q u s name octets o b rejects refuses (Allowed plan) both =
    planned_has Q u s name octets o b plan refuses (no_number o b) (both plan refl)

-- A deposit: it is refused, or its reference is known, or it is stamped.
abbrev pub OfNew : (Effect → Type 0) → Setting → AccountValue → ℤ → List ℕ → List ℕ → Outcome → History → Type 0
OfNew Q s a reading reference bytes o b =
    deposit_under a.name reference b ≡ None → Spells (octets_for s.file a bytes) (request_for s.file a bytes)
    → (f : Finding) → Finds s.file (Some a) reading (octets_for s.file a bytes) o b f
    → Q (deposit_found s a.name reference bytes (octets_for s.file a bytes) o b f)

module _ (Q : Effect → Type 0) (refusal : (f : Fault) → Q (only (Refused f))) (s : Setting) (a : AccountValue)
    (reading : ℤ) (reference bytes : List ℕ) (o : Outcome) (b : History)
    (known : (d : DepositRow) → deposit_under a.name reference b ≡ Some d → Q (known_effect bytes d))
    (new : OfNew Q s a reading reference bytes o b) where
  under_has : (under : Option DepositRow) → deposit_under a.name reference b ≡ under → (e : Effect)
      → KeepsByReference s a reading reference bytes o b under e → Q e
  under_has (Some d) is e h = subst Q (sym h) (known d is)
  under_has None is e h = subst Q (sym h.1.2) (new is h.0 h.1.0 h.1.1)

  searched_has : (refused : Option Cause) (e : Effect) → KeepsOnceSearched s a reading reference bytes o b refused e
      → Q e
  searched_has (Some cause) e h = subst Q (sym h) (refusal (fault_of cause))
  searched_has None e h = under_has (deposit_under a.name reference b) refl e h

  pub deposit_has : (short : Bool) (e : Effect) → KeepsWithinSize s a reading reference bytes o b short e → Q e
  deposit_has true e h = searched_has (cause_of o.searching) e h
  deposit_has false e h = subst Q (sym h) (refusal fault.TooLarge)
