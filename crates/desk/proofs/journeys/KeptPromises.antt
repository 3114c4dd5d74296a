-- What was acknowledged still stands after each step, and journeys have their properties.
use Rattle.std.proofs.Common.{arith, Contains, ◌≡◌, ℕ, zero, suc, ◌+◌, nat_le, cond, ℤ, Bool, true, false, List, []}
use Rattle.std.proofs.Common.{◌∷◌, ◌++◌}
use Rattle.std.proofs.Common.{length, Option, Some, None, drop, refl, sym, ◌∙◌, ap, subst, ◌⊎◌, inl, inr}
use Rattle.std.proofs.lemmas.Bool.{eq-eqb}
use Rattle.std.specs.{List.AllByRecursion, Str.bytes_eq}
use Rattle.policy.specs.Record.{AccountValue}
use Rattle.cms.specs.{Identity.IdentityValue, SignedData.token}
use Rattle.tsp.specs.Granted.{granted_octets}
use Rattle.book.specs.History.{Entry, Reserved, Sealed, Deposited, Calibrated, Held, Granted, Revoked, Installed}
use Rattle.book.specs.History.{CalibrationValue, HoldValue, InstalledValue, History, calibrations, holds, token_of}
use Rattle.book.specs.History.{ReservationValue, reservation_at, latest_calibration}
use Rattle.book.specs.{Continuation.Floor, Continuation.IsAboveIfAny, Continuation.continued, History.deposit_at}
use Rattle.book.specs.{Identities.latest_identity, Identities.identity_at_reservation, Rights.seen_by, Rights.listed}
use Rattle.book.specs.{Rows.DepositRow, Sound.Fits, Sound.IsSound, Sound.is_backwards, Values.deposit_of}
use Rattle.desk.specs.Findings.{StampPlan, Finding, Fails, Unanswered, Allowed}
use Rattle.desk.specs.Command.{InForce, Setting, PendingValue, Command, Stamp, Begin, Finish, Abandon, Deposit, Show}
use Rattle.desk.specs.Command.{ListAll, Grant, Revoke, Calibrate, Hold, Succeed, Answer, Stamped, Rejected, Begun, Kept}
use Rattle.desk.specs.Command.{Shown, Listed, Done, Numbered, Refused, brought, in_force_after, setting_after}
use Rattle.desk.specs.Effects.{Effect, only, unless, Stamping, Unreserved, Void, Sealing}
use Rattle.desk.specs.Effects.{no_number, no_seal, next_reservation, stamping_of, stamp_effect, stamp_found}
use Rattle.desk.specs.Effects.{begin_effect, begin_found}
use Rattle.desk.specs.Effects.{finish_effect, deposit_effect, deposit_found, show_effect, token_effect}
use Rattle.desk.specs.Effects.{reply_or_nothing, no_sight, accepted, numbered, right_effect, calibrate_effect}
use Rattle.desk.specs.MachineRuns.{IsProper, Told, Journey, begins, opens, opens_older, shuts, rests, enters, breaks}
use Rattle.desk.specs.MachineRuns.{IsEntering, IsNumbered, IsSignedUnder, IsTokenFor, IsReservedFor, IsFinishedFor}
use Rattle.desk.specs.MachineRuns.{IsTokenKept, IsDepositKept, IsShownKept, WasBegun, WasFinished}
use Rattle.desk.specs.MachineRuns.{IsDoneKept, IsNumberKept, IsKept, HasProperties}
use Rattle.desk.specs.Succession.{installed_by, is_latest, HasSubject, IsNameable}
use Rattle.desk.specs.{Outcome.Outcome, Outcome.Cause, Outcome.cause_of, Command.Token, Effects.succeed_effect}
use Rattle.desk.specs.{Effects.name_of, MachineRuns.continues, MachineRuns.IsStampKept, Content.IsSoundInFull}
use Rattle.desk.specs.{Texts.octets_for, Texts.pending_of, Texts.token_with, MachineStep.KeepsWithinSize}
use Rattle.desk.specs.{MachineStep.HasEffect, MachineStep.IsMet, MachineRuns.goes, MachineRuns.stops, MachineRuns.after}
use Rattle.desk.specs.{MachineRuns.cut, Continuation.IsStatedIfAny, Names.IsNameableFor, Viewers.viewer_in}
use Rattle.desk.specs.declared.fault.Fault.TheVariants as fault
use Rattle.desk.proofs.journeys.Branches.{if_has, unless_has, right_has, deposit_has}
use Rattle.desk.proofs.journeys.Installation.{IsOf, latest_where, in_force_kept, latest_kept, of_in_force}
use Rattle.desk.proofs.journeys.Installation.{brought_in_force}
use Rattle.desk.proofs.journeys.Views.{reservation_stays, identity_stays, token_stays, deposit_stays, deposit_sealed}
use Rattle.desk.proofs.journeys.Sound.{TextLaws, AreGood, fits_along, true_along, rising_along, naming_along, good_cut}
use Rattle.desk.proofs.journeys.StepFacts.{step_adds, adds_good}
use Rattle.desk.proofs.{journeys.Given.just_found, journeys.Headline.SealedBy, journeys.Headline.stamping_by}
use Rattle.desk.proofs.{documents.Sighted.may_see, journeys.Views.found_under, journeys.Views.same_octets}
use Rattle.desk.proofs.{journeys.Sound.all_good, journeys.WholeOn.whole_on, journeys.WholeOn.rising_on}

first_in : (e : Entry) (b : History) → Contains (e ∷ b) e
first_in e b = (0, omega arith, refl)

stays_in : (e : Entry) (b : History) (x : Entry) → Contains b x → Contains (e ∷ b) x
stays_in e b x (n, below, is) = (suc n, omega arith, is)

-- a calibration and a hold keep their numbers
one_newer : {X : Type 0} (y : X) (n : ℕ) (x : X) (xs : List X) → IsNumbered n x xs → IsNumbered n x (y ∷ xs)
one_newer y n x xs k = record {
  newer = y ∷ k.newer;
  older = k.older;
  is = ap (λ ys. y ∷ ys) k.is;
  counts = k.counts;
}

calibration_stays : (e : Entry) (b : History) (n : ℕ) (x : CalibrationValue) → IsNumbered n x (calibrations b)
    → IsNumbered n x (calibrations (e ∷ b))
calibration_stays (Calibrated c) b n x k = one_newer c n x (calibrations b) k
calibration_stays (Reserved r) b n x k = k
calibration_stays (Sealed m t) b n x k = k
calibration_stays (Deposited d t) b n x k = k
calibration_stays (Held h) b n x k = k
calibration_stays (Granted m a) b n x k = k
calibration_stays (Revoked m a) b n x k = k
calibration_stays (Installed i) b n x k = k

hold_stays : (e : Entry) (b : History) (n : ℕ) (x : HoldValue) → IsNumbered n x (holds b)
    → IsNumbered n x (holds (e ∷ b))
hold_stays (Held h) b n x k = one_newer h n x (holds b) k
hold_stays (Calibrated c) b n x k = k
hold_stays (Reserved r) b n x k = k
hold_stays (Sealed m t) b n x k = k
hold_stays (Deposited d t) b n x k = k
hold_stays (Granted m a) b n x k = k
hold_stays (Revoked m a) b n x k = k
hold_stays (Installed i) b n x k = k

first_numbered : {X : Type 0} (x : X) (xs : List X) → IsNumbered (length xs + 1) x (x ∷ xs)
first_numbered x xs = record { newer = []; older = xs; is = refl; counts = refl }

-- one entry more
signed_stays : (e : Entry) (b : History) → Fits e b → (serial : ℕ) (r : ReservationValue)
    → reservation_at serial b ≡ Some r → (identity : IdentityValue) → IsSignedUnder identity serial b
    → IsSignedUnder identity serial (e ∷ b)
signed_stays e b fits serial r at identity k = λ i found. k i (sym (identity_stays e b fits serial r at) ∙ found)

token_for_stays : (e : Entry) (b : History) → Fits e b → (serial : ℕ) (text : List ℕ) → IsTokenFor serial b text
    → IsTokenFor serial (e ∷ b) text
token_for_stays e b fits serial text k = record {
  reservation = k.reservation;
  reserved = reservation_stays e b fits serial k.reservation k.reserved;
  identity = k.identity;
  algorithm = k.algorithm;
  signature = k.signature;
  certificate = k.certificate;
  text_is = k.text_is;
  sealed = token_stays e b fits serial text k.sealed;
  signer = signed_stays e b fits serial k.reservation k.reserved k.identity k.signer;
}

stamp_kept : (e : Entry) (b : History) → Fits e b → (c : Command) (serial : ℕ) (reply : List ℕ)
    → IsStampKept b c serial reply → IsStampKept (e ∷ b) c serial reply
stamp_kept e b fits (Stamp account reading octets) serial reply k = (k.0, k.1, token_for_stays e b fits serial k.0 k.2)
stamp_kept e b fits (Begin account reading octets) serial reply k = k
stamp_kept e b fits (Finish p signature) serial reply k = (
  k.0,
  k.1,
  record {
    number = k.2.number;
    text_is = k.2.text_is;
    sealed = token_stays e b fits serial k.0 k.2.sealed;
  },
)
stamp_kept e b fits (Abandon p) serial reply k = k
stamp_kept e b fits (Deposit a reading reference bytes) serial reply k = k
stamp_kept e b fits (Show a m) serial reply k = k
stamp_kept e b fits (Token a m) serial reply k = k
stamp_kept e b fits (ListAll a) serial reply k = k
stamp_kept e b fits (Grant a m reader) serial reply k = k
stamp_kept e b fits (Revoke a m reader) serial reply k = k
stamp_kept e b fits (Calibrate x) serial reply k = k
stamp_kept e b fits (Hold h) serial reply k = k
stamp_kept e b fits (Succeed next) serial reply k = k

token_kept : (e : Entry) (b : History) → Fits e b → (number : ℕ) (is_new : Bool) → IsTokenKept b number is_new
    → IsTokenKept (e ∷ b) number is_new
token_kept e b fits number true k = (k.0, token_for_stays e b fits number k.0 k.1)
token_kept e b fits number false k = (k.0, token_stays e b fits number k.0 k.1)

deposit_kept : (e : Entry) (b : History) → Fits e b → (c : Command) (number : ℕ) (is_new : Bool)
    → IsDepositKept b c number is_new → IsDepositKept (e ∷ b) c number is_new
deposit_kept e b fits (Stamp account reading octets) number is_new k = k
deposit_kept e b fits (Begin account reading octets) number is_new k = k
deposit_kept e b fits (Finish p signature) number is_new k = k
deposit_kept e b fits (Abandon p) number is_new k = k
deposit_kept e b fits (Deposit a reading reference bytes) number is_new k = (
  deposit_stays e b fits number (deposit_of number a.name reference bytes) k.0,
  token_kept e b fits number is_new k.1,
)
deposit_kept e b fits (Show a m) number is_new k = k
deposit_kept e b fits (Token a m) number is_new k = k
deposit_kept e b fits (ListAll a) number is_new k = k
deposit_kept e b fits (Grant a m reader) number is_new k = k
deposit_kept e b fits (Revoke a m reader) number is_new k = k
deposit_kept e b fits (Calibrate x) number is_new k = k
deposit_kept e b fits (Hold h) number is_new k = k
deposit_kept e b fits (Succeed next) number is_new k = k

shown_kept : (e : Entry) (b : History) → Fits e b → (c : Command) (octets : List ℕ) → IsShownKept b c octets
    → IsShownKept (e ∷ b) c octets
shown_kept e b fits (Stamp account reading bytes) octets k = k
shown_kept e b fits (Begin account reading bytes) octets k = k
shown_kept e b fits (Finish p signature) octets k = k
shown_kept e b fits (Abandon p) octets k = k
shown_kept e b fits (Deposit a reading reference bytes) octets k = k
shown_kept e b fits (Show a m) octets k = (k.0, deposit_stays e b fits m k.0 k.1, k.2)
shown_kept e b fits (Token a m) octets k = (k.0, k.1, token_stays e b fits m k.0 k.2)
shown_kept e b fits (ListAll a) octets k = k
shown_kept e b fits (Grant a m reader) octets k = k
shown_kept e b fits (Revoke a m reader) octets k = k
shown_kept e b fits (Calibrate x) octets k = k
shown_kept e b fits (Hold h) octets k = k
shown_kept e b fits (Succeed next) octets k = k

done_kept : (e : Entry) (b : History) (c : Command) → IsDoneKept b c → IsDoneKept (e ∷ b) c
done_kept e b (Stamp account reading octets) k = k
done_kept e b (Begin account reading octets) k = k
done_kept e b (Finish p signature) k = k
done_kept e b (Abandon p) k = k
done_kept e b (Deposit a reading reference bytes) k = k
done_kept e b (Show a m) k = k
done_kept e b (Token a m) k = k
done_kept e b (ListAll a) k = k
done_kept e b (Grant a m reader) k = stays_in e b (Granted m reader) k
done_kept e b (Revoke a m reader) k = stays_in e b (Revoked m reader) k
done_kept e b (Calibrate x) k = k
done_kept e b (Hold h) k = k
done_kept e b (Succeed next) k = stays_in e b (Installed (installed_by next.identity)) k

number_kept : (e : Entry) (b : History) (c : Command) (number : ℕ) → IsNumberKept b c number
    → IsNumberKept (e ∷ b) c number
number_kept e b (Stamp account reading octets) number k = k
number_kept e b (Begin account reading octets) number k = k
number_kept e b (Finish p signature) number k = k
number_kept e b (Abandon p) number k = k
number_kept e b (Deposit a reading reference bytes) number k = k
number_kept e b (Show a m) number k = k
number_kept e b (Token a m) number k = k
number_kept e b (ListAll a) number k = k
number_kept e b (Grant a m reader) number k = k
number_kept e b (Revoke a m reader) number k = k
number_kept e b (Calibrate x) number k = calibration_stays e b number x k
number_kept e b (Hold h) number k = hold_stays e b number h k
number_kept e b (Succeed next) number k = k

kept_one : (e : Entry) (b : History) → Fits e b → (c : Command) (a : Answer) → IsKept b c a → IsKept (e ∷ b) c a
kept_one e b fits c (Stamped serial reply) k = stamp_kept e b fits c serial reply k
kept_one e b fits c (Rejected rule) k = tt
kept_one e b fits c (Begun p) k = record {
  reservation = k.reservation;
  reserved = reservation_stays e b fits p.serial k.reservation k.reserved;
  tst = k.tst;
  signer = signed_stays e b fits p.serial k.reservation k.reserved p.identity k.signer;
}
kept_one e b fits c (Kept number is_new) k = deposit_kept e b fits c number is_new k
kept_one e b fits c (Shown octets) k = shown_kept e b fits c octets k
kept_one e b fits c (Listed rows) k = tt
kept_one e b fits c Done k = done_kept e b c k
kept_one e b fits c (Numbered number) k = number_kept e b c number k
kept_one e b fits c (Refused fault) k = tt

pub kept_more : (es : List Entry) (b : History) → AreGood (es ++ b) → (c : Command) (a : Answer) → IsKept b c a
    → IsKept (es ++ b) c a
kept_more [] b g c a k = k
kept_more (e ∷ es) b g c a k = kept_one e (es ++ b) g.0.fits c a (kept_more es b g.1 c a k)

pub all_kept : (es : List Entry) (b : History) → AreGood (es ++ b) → (w : List Told)
    → AllByRecursion (λ t. IsKept b t.command t.answer) w
    → AllByRecursion (λ t. IsKept (es ++ b) t.command t.answer) w
all_kept es b g [] k = tt
all_kept es b g (t ∷ w) k = (kept_more es b g t.command t.answer k.0, all_kept es b g w k.1)

-- What a command is answered stands in the history that it leaves.
abbrev StandsAfter : Command → History → Effect → Type 0
StandsAfter c b e = IsKept (e.adds ++ b) c e.says

-- A token over the next reservation stands, signed under the identity that was installed last before it, if any was.
token_stands : (s : Setting) (b c : History) (account : List ℕ) (plan : StampPlan) (octets : List ℕ)
    (r : ReservationValue) (text signature : List ℕ) → IsOf (latest_identity b) s.in_force
    → r ≡ next_reservation s account plan octets b
    → text ≡ token_with (pending_of s plan (next_reservation s account plan octets b)) signature
    → reservation_at r.serial c ≡ Some r → token_of r.serial c ≡ Some text
    → identity_at_reservation r.serial c ≡ latest_identity b → IsTokenFor r.serial c text
token_stands s b c account plan octets r text signature k next is at sealed found = record {
  reservation = r;
  reserved = at;
  identity = s.in_force.identity;
  algorithm = s.in_force.algorithm;
  signature = signature;
  certificate = plan.request.cert_req;
  text_is = is
      ∙ ap (λ x. token s.in_force.identity s.in_force.algorithm x.tst signature plan.request.cert_req) (sym next);
  sealed = sealed;
  signer = λ i latest. k i (sym found ∙ latest);
}

stamp_stands : (s : Setting) (b : History) (account : Option AccountValue) (reading : ℤ) (octets : List ℕ)
    (plan : StampPlan) (o : Outcome) → IsOf (latest_identity b) s.in_force → (st : Stamping)
    → SealedBy s (name_of account) plan octets o b st
    → StandsAfter (Stamp account reading octets) b (stamp_effect s st)
stamp_stands s b account reading octets plan o k (Unreserved cause) by = tt
stamp_stands s b account reading octets plan o k (Void r cause) by = tt
stamp_stands s b account reading octets plan o k (Sealing r text) by =
    let c : History = Sealed r.serial text ∷ Reserved r ∷ b in (
      text,
      refl,
      token_stands s b c (name_of account) plan octets r text by.0 k by.1 by.2 (rw (eq-eqb r.serial r.serial refl))
          (rw (eq-eqb r.serial r.serial refl)) (just_found r b),
    )

stamp_found_stands : (s : Setting) (b : History) (account : Option AccountValue) (reading : ℤ) (octets : List ℕ)
    (o : Outcome) → IsOf (latest_identity b) s.in_force → (f : Finding)
    → StandsAfter (Stamp account reading octets) b (stamp_found s (name_of account) octets o b f)
stamp_found_stands s b account reading octets o k (Fails rule) = tt
stamp_found_stands s b account reading octets o k (Unanswered cause) = tt
stamp_found_stands s b account reading octets o k (Allowed plan) =
    stamp_stands s b account reading octets plan o k (stamping_of s (name_of account) plan octets o b (no_number o b))
    (stamping_by s (name_of account) plan octets o b (no_number o b))

begin_stands : (s : Setting) (b : History) (account : Option AccountValue) (reading : ℤ) (octets : List ℕ)
    (plan : StampPlan) → IsOf (latest_identity b) s.in_force → (refused : Option Cause)
    → StandsAfter (Begin account reading octets) b (begin_effect s (name_of account) plan octets b refused)
begin_stands s b account reading octets plan k (Some cause) = tt
begin_stands s b account reading octets plan k None =
    let r = next_reservation s (name_of account) plan octets b in record {
      reservation = r;
      reserved = rw (eq-eqb r.serial r.serial refl);
      tst = refl;
      signer = λ i latest. k i (sym (just_found r b) ∙ latest);
    }

begin_found_stands : (s : Setting) (b : History) (account : Option AccountValue) (reading : ℤ) (octets : List ℕ)
    (o : Outcome) → IsOf (latest_identity b) s.in_force → (f : Finding)
    → StandsAfter (Begin account reading octets) b (begin_found s (name_of account) octets o b f)
begin_found_stands s b account reading octets o k (Fails rule) = tt
begin_found_stands s b account reading octets o k (Unanswered cause) = tt
begin_found_stands s b account reading octets o k (Allowed plan) = begin_stands s b account reading octets plan k
    (no_number o b)

finish_stands : (b : History) (p : PendingValue) (signature : List ℕ) (refused : Option Cause)
    → StandsAfter (Finish p signature) b (unless refused (finish_effect p signature))
finish_stands b p signature (Some cause) = tt
finish_stands b p signature None = (
  token_with p signature,
  refl,
  record { number = refl; text_is = refl; sealed = rw (eq-eqb p.serial p.serial refl) },
)

deposit_stands : (s : Setting) (b : History) (a : AccountValue) (reading : ℤ) (reference bytes octets : List ℕ)
    (plan : StampPlan) (o : Outcome) → IsOf (latest_identity b) s.in_force → (st : Stamping)
    → SealedBy s a.name plan octets o b st
    → StandsAfter (Deposit a reading reference bytes) b (deposit_effect s a.name reference bytes st)
deposit_stands s b a reading reference bytes octets plan o k (Unreserved cause) by = tt
deposit_stands s b a reading reference bytes octets plan o k (Void r cause) by = tt
deposit_stands s b a reading reference bytes octets plan o k (Sealing r text) by =
    let c : History = Deposited (deposit_of r.serial a.name reference bytes) text ∷ Reserved r ∷ b in (
      rw (eq-eqb r.serial r.serial refl),
      (
        text,
        token_stands s b c a.name plan octets r text by.0 k by.1 by.2 (rw (eq-eqb r.serial r.serial refl))
            (rw (eq-eqb r.serial r.serial refl)) (just_found r b),
      ),
    )

deposit_found_stands : (s : Setting) (b : History) (a : AccountValue) (reading : ℤ) (reference bytes : List ℕ)
    (o : Outcome) → IsOf (latest_identity b) s.in_force → (f : Finding)
    → StandsAfter (Deposit a reading reference bytes) b (deposit_found s a.name reference bytes
    (octets_for s.file a bytes) o b f)
deposit_found_stands s b a reading reference bytes o k (Fails rule) = tt
deposit_found_stands s b a reading reference bytes o k (Unanswered cause) = tt
deposit_found_stands s b a reading reference bytes o k (Allowed plan) =
    let octets = octets_for s.file a bytes in
    deposit_stands s b a reading reference bytes octets plan o k
    (stamping_of s a.name plan octets o b (no_number o b)) (stamping_by s a.name plan octets o b (no_number o b))

-- a known deposit is the one that is asked for
pub same_row : (a : AccountValue) (reference bytes : List ℕ) (d : DepositRow) → d.owner ≡ a.name → d.reference
    ≡ reference → d.bytes ≡ bytes
    → d ≡ deposit_of d.serial a.name reference bytes
same_row a reference bytes d own under same =
    let one : d ≡ deposit_of d.serial a.name d.reference d.bytes = ap
    (λ x. deposit_of d.serial x d.reference d.bytes) own in
    let two : d ≡ deposit_of d.serial a.name reference d.bytes = one
    ∙ ap (λ x. deposit_of d.serial a.name x d.bytes) under in
    two ∙ ap (λ x. deposit_of d.serial a.name reference x) same

known_if : (b : History) (a : AccountValue) (reading : ℤ) (reference bytes : List ℕ) (d : DepositRow)
    (same : Bool) → bytes_eq d.bytes bytes ≡ same
    → deposit_at d.serial b ≡ Some d → d.owner ≡ a.name → d.reference ≡ reference
    → IsKept b (Deposit a reading reference bytes) (cond same (Kept d.serial false) (Refused fault.Conflict))
known_if b a reading reference bytes d true e at own under =
    (at ∙ ap Some (same_row a reference bytes d own under (same_octets d.bytes bytes e)), deposit_sealed b d.serial d at)
known_if b a reading reference bytes d false e at own under = tt

deposit_keeps : (s : Setting) (b : History) → AreGood b → IsOf (latest_identity b) s.in_force
    → (a : AccountValue) (reading : ℤ) (reference bytes : List ℕ) (o : Outcome) (e : Effect)
    → (short : Bool) → KeepsWithinSize s a reading reference bytes o b short e
    → StandsAfter (Deposit a reading reference bytes) b e
deposit_keeps s b g k a reading reference bytes o e short h =
    deposit_has (StandsAfter (Deposit a reading reference bytes) b) (λ f. tt) s a reading reference bytes o b
    (λ d is.
    let u = found_under b (fits_along b g) a.name reference d is in
    known_if b a reading reference bytes d (bytes_eq d.bytes bytes) refl u.2 u.0 u.1)
    (λ unused spelled f found. deposit_found_stands s b a reading reference bytes o k f) short e h

-- what is shown is a deposit that stands, and the token of one
deposit_shown : (b : History) (a : AccountValue) (n : ℕ) (refused : Option Cause) (seen : Option DepositRow)
    → ((d : DepositRow) → seen ≡ Some d → deposit_at n b ≡ Some d) → StandsAfter (Show a n) b (show_effect refused seen)
deposit_shown b a n refused None at = tt
deposit_shown b a n refused (Some d) at =
    let P : Effect → Type 0 = λ e. StandsAfter (Show a n) b e in
    unless_has P (λ f. tt) refused (only (Shown d.bytes)) (d, at d refl, refl)

reply_shown : (b : History) (a : AccountValue) (n : ℕ) (token : Option (List ℕ)) → token_of n b ≡ token
    → StandsAfter (Token a n) b (only (reply_or_nothing token))
reply_shown b a n None is = tt
reply_shown b a n (Some text) is = (text, refl, is)

token_shown : (b : History) (a : AccountValue) (n : ℕ) (refused : Option Cause) (seen : Option DepositRow)
    → StandsAfter (Token a n) b (token_effect refused (token_of n b) seen)
token_shown b a n refused None = tt
token_shown b a n refused (Some d) =
    let P : Effect → Type 0 = λ e. StandsAfter (Token a n) b e in
    unless_has P (λ f. tt) refused (only (reply_or_nothing (token_of n b))) (reply_shown b a n (token_of n b) refl)

-- the identity that was installed last was installed
latest_in : (b : History) (i : InstalledValue) → latest_identity b ≡ Some i → Contains b (Installed i)
latest_in [] i e = cc
latest_in (Installed j ∷ b) i e =
    let same : j ≡ i = cc in subst (λ x. Contains (Installed j ∷ b) (Installed x)) same (first_in (Installed j) b)
latest_in (Reserved r ∷ b) i e = stays_in (Reserved r) b (Installed i) (latest_in b i e)
latest_in (Sealed n t ∷ b) i e = stays_in (Sealed n t) b (Installed i) (latest_in b i e)
latest_in (Deposited d t ∷ b) i e = stays_in (Deposited d t) b (Installed i) (latest_in b i e)
latest_in (Calibrated c ∷ b) i e = stays_in (Calibrated c) b (Installed i) (latest_in b i e)
latest_in (Held h ∷ b) i e = stays_in (Held h) b (Installed i) (latest_in b i e)
latest_in (Granted n a ∷ b) i e = stays_in (Granted n a) b (Installed i) (latest_in b i e)
latest_in (Revoked n a ∷ b) i e = stays_in (Revoked n a) b (Installed i) (latest_in b i e)

succeeded_stands : (next : InForce) (o : Outcome) (b : History) (latest : Bool)
    → is_latest (installed_by next.identity) (latest_identity b) ≡ latest
    → StandsAfter (Succeed next) b (succeed_effect o (installed_by next.identity) latest)
succeeded_stands next o b true e =
    let i = installed_by next.identity in latest_in b i (latest_where i (latest_identity b) e)
succeeded_stands next o b false e =
    let i = installed_by next.identity in
    let P : Effect → Type 0 = λ x. StandsAfter (Succeed next) b x in
    unless_has P (λ f. tt) (cause_of o.adding) (accepted (Installed i)) (first_in (Installed i) b)

-- a calibration or a hold isn't signed
not_entering : {A : Type 0} → A ⊎ ⊥ → A
not_entering (inl a) = a
not_entering (inr none) = absurd none

pub step_stands : (s : Setting) (c : Command) (o : Outcome) (b : History) (e : Effect) → AreGood b
    → IsOf (latest_identity b) s.in_force ⊎ IsEntering c → HasEffect s c o b e → StandsAfter c b e
step_stands s (Stamp account reading octets) o b e g k h =
    subst (StandsAfter (Stamp account reading octets) b) (sym h.2)
    (stamp_found_stands s b account reading octets o (not_entering k) h.0)
step_stands s (Begin account reading octets) o b e g k h =
    subst (StandsAfter (Begin account reading octets) b) (sym h.2)
    (begin_found_stands s b account reading octets o (not_entering k) h.0)
step_stands s (Finish p signature) o b e g k h = subst (StandsAfter (Finish p signature) b) (sym h)
    (finish_stands b p signature (no_seal o))
step_stands s (Abandon p) o b e g k h = subst (StandsAfter (Abandon p) b) (sym h) tt
step_stands s (Deposit a reading reference bytes) o b e g k h =
    deposit_keeps s b g (not_entering k) a reading reference bytes o e
    (nat_le (length bytes) 1_048_576) h
step_stands s (Show a n) o b e g k h =
    let P : Effect → Type 0 = λ x. StandsAfter (Show a n) b x in
    let viewer = viewer_in s.file a.name in
    let d = show_effect (no_sight o) (seen_by viewer n b) in
    subst P (sym h) (unless_has P (λ f. tt) (cause_of o.searching) d
    (deposit_shown b a n (no_sight o) (seen_by viewer n b) (λ x is. (may_see viewer n b x is).deposited)))
step_stands s (Token a n) o b e g k h =
    let P : Effect → Type 0 = λ x. StandsAfter (Token a n) b x in
    let seen = seen_by (viewer_in s.file a.name) n b in
    let d = token_effect (no_sight o) (token_of n b) seen in
    subst P (sym h) (unless_has P (λ f. tt) (cause_of o.searching) d (token_shown b a n (no_sight o) seen))
step_stands s (ListAll a) o b e g k h =
    let P : Effect → Type 0 = λ x. StandsAfter (ListAll a) b x in
    subst P (sym h) (unless_has P (λ f. tt) (cause_of o.looking) (only (Listed (listed (viewer_in s.file a.name) b))) tt)
step_stands s (Grant a n reader) o b e g k h =
    let P : Effect → Type 0 = λ x. StandsAfter (Grant a n reader) b x in
    let entry = Granted n reader in
    let d = right_effect s.file a.name reader o entry (seen_by (viewer_in s.file a.name) n b) in
    subst P (sym h) (unless_has P (λ f. tt) (cause_of o.searching) d (right_has P (λ f. tt) s.file a.name
    reader o entry (seen_by (viewer_in s.file a.name) n b) (λ x is owns. first_in entry b)))
step_stands s (Revoke a n reader) o b e g k h =
    let P : Effect → Type 0 = λ x. StandsAfter (Revoke a n reader) b x in
    let entry = Revoked n reader in
    let d = right_effect s.file a.name reader o entry (seen_by (viewer_in s.file a.name) n b) in
    subst P (sym h) (unless_has P (λ f. tt) (cause_of o.searching) d (right_has P (λ f. tt) s.file a.name
    reader o entry (seen_by (viewer_in s.file a.name) n b) (λ x is owns. first_in entry b)))
step_stands s (Calibrate c) o b e g k h =
    let P : Effect → Type 0 = λ x. StandsAfter (Calibrate c) b x in
    let backwards : Effect = only (Refused fault.Store) in
    subst P (sym h) (unless_has P (λ f. tt) (cause_of o.adding) (calibrate_effect c b)
    (if_has P (is_backwards c (latest_calibration b)) backwards
    (numbered (Calibrated c) (length (calibrations b) + 1)) tt (first_numbered c (calibrations b))))
step_stands s (Hold x) o b e g k h =
    let P : Effect → Type 0 = λ y. StandsAfter (Hold x) b y in
    subst P (sym h) (unless_has P (λ f. tt) (cause_of o.adding) (numbered (Held x) (length (holds b) + 1))
    (first_numbered x (holds b)))
step_stands s (Succeed next) o b e g k h =
    let P : Effect → Type 0 = λ x. StandsAfter (Succeed next) b x in
    let i = installed_by next.identity in
    let latest = is_latest i (latest_identity b) in
    subst P (sym h) (unless_has P (λ f. tt) (cause_of o.looking) (succeed_effect o i latest)
    (succeeded_stands next o b latest refl))

-- by what a desk is open: a proper setting, whose identity was installed last where TSTInfos name it
abbrev IsOpenBy : Option Setting → History → Type 0
IsOpenBy None b = Unit {0}
IsOpenBy (Some s) b = IsProper s × IsNameable s b

apart : {t : Bool} → t ≡ false → t ≡ true → ⊥
apart e f = cc

none_found : (i : InstalledValue) → None ≡ Some i → ⊥
none_found i e = cc

-- what is in force there is the identity that was installed last, if any was
abbrev IsLatestBy : Option Setting → History → Type 0
IsLatestBy None b = Unit {0}
IsLatestBy (Some s) b = IsOf (latest_identity b) s.in_force

-- journeys leave good histories in which all stands that was acknowledged
record Holds (b : History) (x : Option Setting) (w : List Told) : Type 0 where
  good : AreGood b
  kept : AllByRecursion (λ t. IsKept b t.command t.answer) w
  open_by : IsOpenBy x b
  latest_by : IsLatestBy x b

-- a setting stays proper
identity_brought : (before next : InForce) (a : Answer) → HasSubject before.identity → HasSubject next.identity
    → HasSubject (brought before next a).identity
identity_brought before next Done old new = new
identity_brought before next (Stamped serial octets) old new = old
identity_brought before next (Rejected rule) old new = old
identity_brought before next (Begun p) old new = old
identity_brought before next (Kept number is_new) old new = old
identity_brought before next (Shown octets) old new = old
identity_brought before next (Listed xs) old new = old
identity_brought before next (Numbered n) old new = old
identity_brought before next (Refused f) old new = old

identity_after : (before : InForce) (c : Command) (b : History) (a : Answer) → IsMet c b → HasSubject before.identity
    → HasSubject (in_force_after before c a).identity
identity_after before (Stamp account reading octets) b a met old = old
identity_after before (Begin account reading octets) b a met old = old
identity_after before (Finish p signature) b a met old = old
identity_after before (Abandon p) b a met old = old
identity_after before (Deposit o reading reference bytes) b a met old = old
identity_after before (Show o n) b a met old = old
identity_after before (Token o n) b a met old = old
identity_after before (ListAll o) b a met old = old
identity_after before (Grant o n reader) b a met old = old
identity_after before (Revoke o n reader) b a met old = old
identity_after before (Calibrate c) b a met old = old
identity_after before (Hold h) b a met old = old
identity_after before (Succeed next) b a met old = identity_brought before next a old met

pub proper_after : (s : Setting) (c : Command) (b : History) (a : Answer) → IsMet c b → IsProper s
    → IsProper (setting_after s c a)
proper_after s c b a met proper = record {
  some_accuracy = proper.some_accuracy;
  most_accuracy = proper.most_accuracy;
  policies = proper.policies;
  identity = identity_after s.in_force c b a met proper.identity;
}

-- and so is a command's reservation
nameable_for : (s : Setting) (c : Command) (b : History) → IsNameable s b → IsNameableFor s c b
nameable_for s (Stamp account reading octets) b k = k
nameable_for s (Begin account reading octets) b k = k
nameable_for s (Deposit a reading reference bytes) b k = k
nameable_for s (Finish p signature) b k = tt
nameable_for s (Abandon p) b k = tt
nameable_for s (Show a n) b k = tt
nameable_for s (Token a n) b k = tt
nameable_for s (ListAll a) b k = tt
nameable_for s (Grant a n reader) b k = tt
nameable_for s (Revoke a n reader) b k = tt
nameable_for s (Calibrate c) b k = tt
nameable_for s (Hold h) b k = tt
nameable_for s (Succeed next) b k = tt

goes_on : TextLaws → (b : History) (w : List Told) (s : Setting) (c : Command) (o : Outcome) (e : Effect)
    → IsMet c b → HasEffect s c o b e → Holds b (Some s) w
    → Holds (after e b) (Some (setting_after s c e.says)) (record { command = c; answer = e.says } ∷ w)
goes_on laws b w s c o e met h before =
    let adds = step_adds laws s before.open_by.0 c o b e (fits_along b before.good) met h in
    let g = adds_good (IsNameableFor s c b) (nameable_for s c b before.open_by.1) e.adds b adds before.good in
    record {
      good = g;
      kept = (step_stands s c o b e before.good (inl before.latest_by) h, all_kept e.adds b g w before.kept);
      open_by = (
        proper_after s c b e.says met before.open_by.0,
        λ named. in_force_kept s c o b e h (before.open_by.1 named),
      );
      latest_by = latest_kept s c o b e h before.latest_by;
    }

stops_at : TextLaws → (b : History) (w : List Told) (s : Setting) (c : Command) (o : Outcome) (e : Effect) (k : ℕ)
    → IsMet c b → HasEffect s c o b e → Holds b (Some s) w → Holds (cut k e b) None w
stops_at laws b w s c o e k met h before =
    let adds = step_adds laws s before.open_by.0 c o b e (fits_along b before.good) met h in
    let g = good_cut k e.adds b (adds_good (IsNameableFor s c b) (nameable_for s c b before.open_by.1) e.adds b adds before.good) in
    record { good = g; kept = all_kept (drop k e.adds) b g w before.kept; open_by = tt; latest_by = tt }

-- what an opening adds is good, whatever was in force before
installed_good : (b : History) (next : InForce) (o : Outcome) (latest : Bool) → AreGood b
    → AreGood ((succeed_effect o (installed_by next.identity) latest).adds ++ b)
installed_good b next o true g = g
installed_good b next o false g =
    unless_has (λ e. AreGood (e.adds ++ b)) (λ f. g) (cause_of o.adding) (accepted (Installed (installed_by next.identity)))
    (record { fits = tt; true_of = tt; rising = tt; naming = λ u. tt }, g)

opening_good : (s : Setting) (b : History) (o : Outcome) (e : Effect) → HasEffect s (Succeed s.in_force) o b e
    → AreGood b → AreGood (e.adds ++ b)
opening_good s b o e h g =
    let i = installed_by s.in_force.identity in
    let latest = is_latest i (latest_identity b) in
    subst (λ x. AreGood (x.adds ++ b)) (sym h)
    (unless_has (λ x. AreGood (x.adds ++ b)) (λ f. g) (cause_of o.looking) (succeed_effect o i latest)
    (installed_good b s.in_force o latest g))

-- what the store adds alone is good
entering_good : (s : Setting) (c : Command) (o : Outcome) (b : History) (e : Effect) → IsEntering c → IsMet c b
    → HasEffect s c o b e → AreGood b → AreGood (e.adds ++ b)
entering_good s (Calibrate c) o b e entering met h g =
    let P : Effect → Type 0 = λ x. AreGood (x.adds ++ b) in
    let backwards : Effect = only (Refused fault.Store) in
    let added = numbered (Calibrated c) (length (calibrations b) + 1) in
    subst P (sym h) (unless_has P (λ f. g) (cause_of o.adding) (calibrate_effect c b)
    (if_has P (is_backwards c (latest_calibration b)) backwards added g
    (record { fits = met; true_of = tt; rising = tt; naming = λ u. tt }, g)))
entering_good s (Hold k) o b e entering met h g =
    let P : Effect → Type 0 = λ x. AreGood (x.adds ++ b) in
    subst P (sym h) (unless_has P (λ f. g) (cause_of o.adding) (numbered (Held k) (length (holds b) + 1))
    (record { fits = met; true_of = tt; rising = tt; naming = λ u. tt }, g))
entering_good s (Stamp account reading octets) o b e entering met h g = absurd entering
entering_good s (Begin account reading octets) o b e entering met h g = absurd entering
entering_good s (Finish p signature) o b e entering met h g = absurd entering
entering_good s (Abandon p) o b e entering met h g = absurd entering
entering_good s (Deposit a reading reference bytes) o b e entering met h g = absurd entering
entering_good s (Show a n) o b e entering met h g = absurd entering
entering_good s (Token a n) o b e entering met h g = absurd entering
entering_good s (ListAll a) o b e entering met h g = absurd entering
entering_good s (Grant a n reader) o b e entering met h g = absurd entering
entering_good s (Revoke a n reader) o b e entering met h g = absurd entering
entering_good s (Succeed next) o b e entering met h g = absurd entering

opens_by : TextLaws → (b : History) (x : Option Setting) (w : List Told) (s : Setting) (o : Outcome) (e : Effect)
    → IsProper s → HasEffect s (Succeed s.in_force) o b e → e.says ≡ Done → Holds b x w
    → Holds (after e b) (Some s) w
opens_by laws b x w s o e proper h done before =
    let g = opening_good s b o e h before.good in
    record {
      good = g;
      kept = all_kept e.adds b g w before.kept;
      open_by = (proper, λ named. brought_in_force s s.in_force o b e h done);
      latest_by = of_in_force s.in_force (after e b) (brought_in_force s s.in_force o b e h done);
    }

shuts_at : TextLaws → (b : History) (x : Option Setting) (w : List Told) (s : Setting) (o : Outcome) (e : Effect) (k : ℕ)
    → IsProper s → HasEffect s (Succeed s.in_force) o b e → Holds b x w → Holds (cut k e b) None w
shuts_at laws b x w s o e k proper h before =
    let g = good_cut k e.adds b (opening_good s b o e h before.good) in
    record { good = g; kept = all_kept (drop k e.adds) b g w before.kept; open_by = tt; latest_by = tt }

-- what goes on in a new book is good
goes_on_good : (floor : Option Floor) (b : History) → IsAboveIfAny floor b → IsStatedIfAny floor b → AreGood b
    → AreGood (continued floor b)
goes_on_good floor b above stated good =
    let before : IsSoundInFull b = record {
      sound = fits_along b good;
      content = true_along b good;
      naming = naming_along b good;
    } in
    let whole = whole_on floor b before above stated in
    all_good (continued floor b) whole.sound whole.content (rising_on floor b before stated) whole.naming

holds_along : TextLaws → (b : History) (x : Option Setting) (w : List Told) → Journey b x w → Holds b x w
holds_along laws b x w begins = record { good = tt; kept = tt; open_by = tt; latest_by = tt }
holds_along laws b x w (opens {b = b0} {x = x0} {w = w0} s o e proper h done j) =
    opens_by laws b0 x0 w0 s o e proper h done (holds_along laws b0 x0 w0 j)
holds_along laws b x w (opens_older {b = b0} {x = x0} {w = w0} s proper none unnamed j) =
    let before = holds_along laws b0 x0 w0 j in record {
      good = before.good;
      kept = before.kept;
      open_by = (proper, λ named. absurd (apart unnamed named));
      latest_by = λ i found. absurd (none_found i (sym none ∙ found));
    }
holds_along laws b x w (shuts {b = b0} {x = x0} {w = w0} s o e k proper h j) =
    shuts_at laws b0 x0 w0 s o e k proper h (holds_along laws b0 x0 w0 j)
holds_along laws b x w (rests {b = b0} {x = x0} {w = w0} j) =
    let before = holds_along laws b0 x0 w0 j in
    record { good = before.good; kept = before.kept; open_by = tt; latest_by = tt }
holds_along laws b x w (enters {b = b0} {w = w0} s c o e entering met h j) =
    let before = holds_along laws b0 None w0 j in
    let g = entering_good s c o b0 e entering met h before.good in
    record {
      good = g;
      kept = (step_stands s c o b0 e before.good (inr entering) h, all_kept e.adds b0 g w0 before.kept);
      open_by = tt;
      latest_by = tt;
    }
holds_along laws b x w (breaks {b = b0} {w = w0} s c o e k entering met h j) =
    let before = holds_along laws b0 None w0 j in
    let g = good_cut k e.adds b0 (entering_good s c o b0 e entering met h before.good) in
    record { good = g; kept = all_kept (drop k e.adds) b0 g w0 before.kept; open_by = tt; latest_by = tt }
holds_along laws b x w (goes {b = b0} {w = w0} s c o e met h j) =
    goes_on laws b0 w0 s c o e met h (holds_along laws b0 (Some s) w0 j)
holds_along laws b x w (stops {b = b0} {w = w0} s c o e k met h j) =
    stops_at laws b0 w0 s c o e k met h (holds_along laws b0 (Some s) w0 j)
holds_along laws b x w (continues {b = b0} {w = w0} floor above stated j) =
    let good = (holds_along laws b0 None w0 j).good in
    record { good = goes_on_good floor b0 above stated good; kept = tt; open_by = tt; latest_by = tt }

-- a member of a list
member_cases : {X : Type 0} (x y : X) (xs : List X) → Contains (x ∷ xs) y → (x ≡ y) ⊎ Contains xs y
member_cases x y xs (zero, below, is) = inl is
member_cases x y xs (suc k, below, is) = inr (k, omega arith, is)

all_of : {X : Type 0} (P : X → Type 0) (xs : List X) (y : X) → AllByRecursion P xs → Contains xs y → P y
all_of P [] y all m = let below = m.1 in absurd (omega arith)
all_of P (x ∷ xs) y all m = elim (member_cases x y xs m) [ inl e ↦ subst P e all.0 | inr m ↦ all_of P xs y all.1 m ]

-- what was begun is finished over its reservation
token_finished : (b : History) (p : PendingValue) (signature : List ℕ) (serial : ℕ) (text : List ℕ)
    → IsReservedFor p b → IsFinishedFor p signature serial b text → IsTokenFor serial b text
token_finished b p signature serial text begun k = record {
  reservation = begun.reservation;
  reserved = subst (λ n. reservation_at n b ≡ Some begun.reservation) (sym k.number) begun.reserved;
  identity = p.identity;
  algorithm = p.algorithm;
  signature = signature;
  certificate = p.certificate;
  text_is = k.text_is ∙ ap (λ x. token p.identity p.algorithm x signature p.certificate) (sym begun.tst);
  sealed = k.sealed;
  signer = subst (λ n. IsSignedUnder p.identity n b) (sym k.number) begun.signer;
}

finished_along : (b : History) (w : List Told) → AllByRecursion (λ t. IsKept b t.command t.answer) w
    → (p : PendingValue) (signature : List ℕ) (serial : ℕ) (reply : List ℕ) → WasBegun p w
    → WasFinished p signature serial reply w
    → (text : List ℕ) × (reply ≡ granted_octets text) × IsTokenFor serial b text
finished_along b w kept p signature serial reply begun finished =
    let P : Told → Type 0 = λ t. IsKept b t.command t.answer in
    let waits : IsReservedFor p b = all_of P w (record { command = begun.0; answer = Begun p }) kept begun.1 in
    let stands : IsStampKept b (Finish p signature) serial reply =
    all_of P w (record { command = Finish p signature; answer = Stamped serial reply }) kept finished in
    (stands.0, stands.1, token_finished b p signature serial stands.0 waits stands.2)

pub journeys_have_properties : TextLaws → (b : History) (x : Option Setting) (w : List Told) → Journey b x w
    → HasProperties b w
journeys_have_properties laws b x w j =
    let h = holds_along laws b x w j in
    record {
      sound = record {
        sound = fits_along b h.good;
        content = true_along b h.good;
        naming = naming_along b h.good;
      };
      rising = rising_along b h.good;
      kept = h.kept;
      finished = finished_along b w h.kept;
    }

pub sound_along : TextLaws → (b : History) (x : Option Setting) (w : List Told) → Journey b x w → IsSound b
sound_along laws b x w j = fits_along b (holds_along laws b x w j).good

pub open_along : TextLaws → (b : History) (s : Setting) (w : List Told) → Journey b (Some s) w
    → IsProper s × IsNameable s b
open_along laws b s w j = (holds_along laws b (Some s) w j).open_by
