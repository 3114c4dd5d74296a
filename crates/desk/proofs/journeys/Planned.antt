-- Grants, rejections and deposits are of their plan.
use Rattle.std.proofs.Common.{◌≡◌, ℕ, ◌+◌, nat_le, ℤ, cond, Bool, true, false, List, [], ◌∷◌, length, Option, Some}
use Rattle.std.proofs.Common.{None}
use Rattle.std.proofs.Common.{refl, sym, ◌∙◌, ap, subst, inl, inr}
use Rattle.std.specs.Str.{bytes_eq}
use Rattle.policy.specs.Record.{AccountValue}
use Rattle.tsp.specs.Request.{Spells}
use Rattle.cms.specs.SignedData.{token}
use Rattle.book.specs.History.{Reserved, Deposited, History, greatest_serial, deposit_at, deposit_under}
use Rattle.book.specs.{Rows.DepositRow, Sound.IsSound, Values.deposit_of}
use Rattle.desk.specs.Outcome.{Outcome, Cause, OfMemory, OfStore, OfSigner, cause_of}
use Rattle.desk.specs.Findings.{StampPlan, IsAllowed, Finding, Fails, Unanswered, Allowed, Finds}
use Rattle.desk.specs.Command.{Setting, PendingValue, Command, Stamp, Begin, Finish, Abandon, Deposit, Show, Token}
use Rattle.desk.specs.Command.{ListAll, Grant, Revoke, Calibrate, Hold, Succeed, Answer, Kept}
use Rattle.desk.specs.Command.{Refused}
use Rattle.desk.specs.Texts.{tst_of, reservation_of, gives_certificate, request_for, octets_for}
use Rattle.desk.specs.Effects.{Effect, only, unless, Stamping, Unreserved, Void, Sealing, no_number, no_seal, name_of}
use Rattle.desk.specs.Effects.{next_reservation, stamping_of, begin_effect, begin_found, finish_effect}
use Rattle.desk.specs.Effects.{deposit_effect, deposit_found, known_effect, fault_of}
use Rattle.desk.specs.MachineStep.{KeepsByReference, KeepsOnceSearched, KeepsWithinSize, HasEffect}
use Rattle.desk.specs.Laws.{IsDeposited, IsStampOfPlan, IsBeginningOfPlan, IsFinishOfPlan, IsOfPlan}
use Rattle.desk.specs.declared.fault.Fault.TheVariants as fault
use Rattle.desk.proofs.journeys.Headline.{SealedBy, stamping_by, granted_is, rejected_is, stamp_answered}
use Rattle.desk.proofs.journeys.Views.{found_under, same_octets}
use Rattle.desk.proofs.{journeys.KeptPromises.same_row, journeys.Sound.TextLaws}

-- what is begun
begun_of : (s : Setting) (account : Option AccountValue) (reading : ℤ) (octets : List ℕ) (b : History)
    (plan : StampPlan) → IsAllowed s.file account reading octets b plan → (why : Option Cause)
    → IsBeginningOfPlan s account reading octets b (begin_effect s (name_of account) plan octets b why).says
begun_of s account reading octets b plan allowed (Some cause) = tt
begun_of s account reading octets b plan allowed None = record {
  plan = plan;
  allowed = allowed;
  number = refl;
  tst = refl;
  certificate = refl;
  identity = refl;
  algorithm = refl;
}

begin_found_of : (s : Setting) (account : Option AccountValue) (reading : ℤ) (octets : List ℕ) (o : Outcome)
    (b : History) (f : Finding) → Finds s.file account reading octets o b f
    → IsBeginningOfPlan s account reading octets b (begin_found s (name_of account) octets o b f).says
begin_found_of s account reading octets o b (Fails rule) found = found.0
begin_found_of s account reading octets o b (Unanswered cause) found = tt
begin_found_of s account reading octets o b (Allowed plan) found =
    begun_of s account reading octets b plan found.0 (no_number o b)

-- what is finished
finished_of : (p : PendingValue) (signature : List ℕ) (why : Option Cause)
    → IsFinishOfPlan p signature (unless why (finish_effect p signature)).says
finished_of p signature (Some cause) = tt
finished_of p signature None = record { number = refl; text = refl }

-- what is deposited
abbrev rows : List ℕ → List ℕ → List ℕ → ℕ → DepositRow
rows owner reference bytes n = deposit_of n owner reference bytes

deposited_from : TextLaws → (s : Setting) (a : AccountValue) (reading : ℤ) (reference bytes : List ℕ) (o : Outcome)
    (b : History) (plan : StampPlan) (number : ℕ)
    → Spells (octets_for s.file a bytes) (request_for s.file a bytes)
    → IsAllowed s.file (Some a) reading (octets_for s.file a bytes) b plan → (st : Stamping)
    → SealedBy s a.name plan (octets_for s.file a bytes) o b st
    → (deposit_effect s a.name reference bytes st).says ≡ Kept number true
    → IsDeposited s a reading reference bytes o b (deposit_effect s a.name reference bytes st) number
deposited_from laws s a reading reference bytes o b plan number spelled allowed (Unreserved cause) by e = cc
deposited_from laws s a reading reference bytes o b plan number spelled allowed (Void r cause) by e = cc
deposited_from laws s a reading reference bytes o b plan number spelled allowed (Sealing r text) by e =
    let octets = octets_for s.file a bytes in
    let request = laws.one_request octets plan.request (request_for s.file a bytes) allowed.spelled spelled in
    let next = next_reservation s a.name plan octets b in
    let of_next : r.serial ≡ number = cc in
    let number_is : number ≡ greatest_serial b + 1 = sym of_next ∙ ap (λ x. x.serial) by.1 in
    let given : plan.request.cert_req ≡ gives_certificate s.file a = ap (λ x. x.cert_req) request in
    let signed = λ (n : ℕ) (certificate : Bool). token s.in_force.identity s.in_force.algorithm (tst_of s plan n) by.0 certificate
    in
    let text_is : text ≡ signed number (gives_certificate s.file a) =
    by.2 ∙ (ap (signed (greatest_serial b + 1)) given
    ∙ ap (λ n. signed n (gives_certificate s.file a)) (sym number_is)) in
    let reserved_is : r ≡ reservation_of s a.name plan octets number =
    by.1 ∙ ap (reservation_of s a.name plan octets) (sym number_is) in
    record {
      plan = plan;
      allowed = allowed;
      request = request;
      next = number_is;
      signature = by.0;
      signed = by.3;
      adds = ap (λ n. Deposited (rows a.name reference bytes n) text ∷ Reserved r ∷ []) of_next
          ∙ (ap (λ t. Deposited (rows a.name reference bytes number) t ∷ Reserved r ∷ []) text_is
          ∙ ap (λ x. Deposited (rows a.name reference bytes number)
          (signed number (gives_certificate s.file a)) ∷ Reserved x ∷ []) reserved_is);
    }

-- of a deposit's answer
abbrev IsOfDeposit : Setting → AccountValue → ℤ → List ℕ → List ℕ → Outcome → History → Effect → Answer → Type 0
IsOfDeposit s a reading reference bytes o b e answer = IsOfPlan s (Deposit a reading reference bytes) o b e answer

plain_cause : (s : Setting) (a : AccountValue) (reading : ℤ) (reference bytes : List ℕ) (o : Outcome) (b : History)
    (e : Effect) (cause : Cause) → IsOfDeposit s a reading reference bytes o b e (Refused (fault_of cause))
plain_cause s a reading reference bytes o b e OfMemory = tt
plain_cause s a reading reference bytes o b e OfStore = tt
plain_cause s a reading reference bytes o b e OfSigner = tt

known_of : (s : Setting) (a : AccountValue) (reading : ℤ) (reference bytes : List ℕ) (o : Outcome) (b : History)
    (d : DepositRow) → deposit_under a.name reference b ≡ Some d → deposit_at d.serial b ≡ Some d → d.owner ≡ a.name
    → d.reference ≡ reference → (e : Effect) → (same : Bool) → bytes_eq d.bytes bytes ≡ same
    → IsOfDeposit s a reading reference bytes o b e (cond same (Kept d.serial false) (Refused fault.Conflict))
known_of s a reading reference bytes o b d found at own under e true is =
    at ∙ ap Some (same_row a reference bytes d own under (same_octets d.bytes bytes is))
known_of s a reading reference bytes o b d found at own under e false is = (d, found, is)

stamped_of : TextLaws → (s : Setting) (a : AccountValue) (reading : ℤ) (reference bytes : List ℕ) (o : Outcome)
    (b : History) (plan : StampPlan) → Spells (octets_for s.file a bytes) (request_for s.file a bytes)
    → IsAllowed s.file (Some a) reading (octets_for s.file a bytes) b plan → (st : Stamping)
    → SealedBy s a.name plan (octets_for s.file a bytes) o b st
    → IsOfDeposit s a reading reference bytes o b (deposit_effect s a.name reference bytes st)
    (deposit_effect s a.name reference bytes st).says
stamped_of laws s a reading reference bytes o b plan spelled allowed (Unreserved cause) by =
    plain_cause s a reading reference bytes o b (deposit_effect s a.name reference bytes (Unreserved cause)) cause
stamped_of laws s a reading reference bytes o b plan spelled allowed (Void r cause) by =
    plain_cause s a reading reference bytes o b (deposit_effect s a.name reference bytes (Void r cause)) cause
stamped_of laws s a reading reference bytes o b plan spelled allowed (Sealing r text) by =
    deposited_from laws s a reading reference bytes o b plan r.serial spelled allowed (Sealing r text) by refl

new_of : TextLaws → (s : Setting) (a : AccountValue) (reading : ℤ) (reference bytes : List ℕ) (o : Outcome)
    (b : History) → Spells (octets_for s.file a bytes) (request_for s.file a bytes) → (f : Finding)
    → Finds s.file (Some a) reading (octets_for s.file a bytes) o b f
    → IsOfDeposit s a reading reference bytes o b
    (deposit_found s a.name reference bytes (octets_for s.file a bytes) o b f)
    (deposit_found s a.name reference bytes (octets_for s.file a bytes) o b f).says
new_of laws s a reading reference bytes o b spelled (Fails rule) found = found.0
new_of laws s a reading reference bytes o b spelled (Unanswered cause) found =
    plain_cause s a reading reference bytes o b (only (Refused (fault_of cause))) cause
new_of laws s a reading reference bytes o b spelled (Allowed plan) found =
    let octets = octets_for s.file a bytes in
    stamped_of laws s a reading reference bytes o b plan spelled found.0
    (stamping_of s a.name plan octets o b (no_number o b)) (stamping_by s a.name plan octets o b (no_number o b))

under_of : TextLaws → (s : Setting) (a : AccountValue) (reading : ℤ) (reference bytes : List ℕ) (o : Outcome)
    (b : History) → IsSound b → (e : Effect) → (under : Option DepositRow) → deposit_under a.name reference b ≡ under
    → KeepsByReference s a reading reference bytes o b under e → IsOfDeposit s a reading reference bytes o b e e.says
under_of laws s a reading reference bytes o b sound e (Some d) is h =
    let u = found_under b sound a.name reference d is in
    subst (λ x. IsOfDeposit s a reading reference bytes o b x x.says) (sym h)
    (known_of s a reading reference bytes o b d is u.2 u.0 u.1 (known_effect bytes d)
    (bytes_eq d.bytes bytes) refl)
under_of laws s a reading reference bytes o b sound e None is h =
    subst (λ x. IsOfDeposit s a reading reference bytes o b x x.says) (sym h.1.2)
    (new_of laws s a reading reference bytes o b h.0 h.1.0 h.1.1)

unless_of : TextLaws → (s : Setting) (a : AccountValue) (reading : ℤ) (reference bytes : List ℕ) (o : Outcome)
    (b : History) → IsSound b → (e : Effect) → (refused : Option Cause)
    → KeepsOnceSearched s a reading reference bytes o b refused e → IsOfDeposit s a reading reference bytes o b e e.says
unless_of laws s a reading reference bytes o b sound e (Some cause) h =
    subst (λ x. IsOfDeposit s a reading reference bytes o b x x.says) (sym h)
    (plain_cause s a reading reference bytes o b (only (Refused (fault_of cause))) cause)
unless_of laws s a reading reference bytes o b sound e None h =
    under_of laws s a reading reference bytes o b sound e (deposit_under a.name reference b) refl h

keeps_of : TextLaws → (s : Setting) (a : AccountValue) (reading : ℤ) (reference bytes : List ℕ) (o : Outcome)
    (b : History) → IsSound b → (e : Effect) → (short : Bool) → nat_le (length bytes) 1_048_576 ≡ short
    → KeepsWithinSize s a reading reference bytes o b short e → IsOfDeposit s a reading reference bytes o b e e.says
keeps_of laws s a reading reference bytes o b sound e true is h =
    unless_of laws s a reading reference bytes o b sound e (cause_of o.searching) h
keeps_of laws s a reading reference bytes o b sound e false is h =
    subst (λ x. IsOfDeposit s a reading reference bytes o b x x.says) (sym h) is

-- of a stamp
stamp_of : (s : Setting) (account : Option AccountValue) (reading : ℤ) (octets : List ℕ) (o : Outcome) (b : History)
    (e : Effect) → HasEffect s (Stamp account reading octets) o b e
    → IsStampOfPlan s account reading octets o b e.says
stamp_of s account reading octets o b e h =
    elim (stamp_answered s account reading octets o b e h) [
      | inl k ↦ subst (IsStampOfPlan s account reading octets o b) (sym k.1.1)
          (granted_is s account reading octets o b e k.0 k.1.0 h k.1.1)
      | inr k ↦ subst (IsStampOfPlan s account reading octets o b) (sym k.1)
          (rejected_is s account reading octets o b e k.0 h k.1)
    ]

pub of_plan : TextLaws → (s : Setting) (c : Command) (o : Outcome) (b : History) (e : Effect) → IsSound b
    → HasEffect s c o b e → IsOfPlan s c o b e e.says
of_plan laws s (Stamp account reading octets) o b e sound h = stamp_of s account reading octets o b e h
of_plan laws s (Begin account reading octets) o b e sound h =
    subst (λ x. IsBeginningOfPlan s account reading octets b x.says) (sym h.2)
    (begin_found_of s account reading octets o b h.0 h.1)
of_plan laws s (Finish p signature) o b e sound h =
    subst (λ x. IsFinishOfPlan p signature x.says) (sym h) (finished_of p signature (no_seal o))
of_plan laws s (Abandon p) o b e sound h = tt
of_plan laws s (Deposit a reading reference bytes) o b e sound h =
    keeps_of laws s a reading reference bytes o b sound e (nat_le (length bytes) 1_048_576) refl h
of_plan laws s (Show a n) o b e sound h = tt
of_plan laws s (Token a n) o b e sound h = tt
of_plan laws s (ListAll a) o b e sound h = tt
of_plan laws s (Grant a n reader) o b e sound h = tt
of_plan laws s (Revoke a n reader) o b e sound h = tt
of_plan laws s (Calibrate c) o b e sound h = tt
of_plan laws s (Hold k) o b e sound h = tt
of_plan laws s (Succeed next) o b e sound h = tt
