-- What is in force stays the identity that was installed last, and an opening brings it so.
use Rattle.std.proofs.Common.{◌≡◌, ℕ, ◌+◌, nat_le, Bool, true, false, List, [], ◌∷◌, ◌++◌, length}
use Rattle.std.proofs.Common.{Option, Some, None, refl, sym, ◌∙◌, ap, subst}
use Rattle.std.specs.Str.{bytes_eq}
use Rattle.book.specs.History.{Reserved, Calibrated, Held, Granted, Revoked, Installed, InstalledValue, History}
use Rattle.book.specs.History.{calibrations, holds, latest_calibration, token_of}
use Rattle.book.specs.Identities.{latest_identity}
use Rattle.book.specs.{History.ReservationValue, Rights.seen_by, Sound.is_backwards, Values.installed_of}
use Rattle.desk.specs.Findings.{StampPlan, Finding, Fails, Unanswered, Allowed}
use Rattle.desk.specs.Command.{InForce, Setting, Command, Stamp, Begin, Finish, Abandon, Deposit, Show, Token, ListAll}
use Rattle.desk.specs.Command.{Grant, Revoke, Calibrate, Hold, Succeed, Done, Refused, brought, in_force_after}
use Rattle.desk.specs.Effects.{Effect, only, no_number, no_seal}
use Rattle.desk.specs.Effects.{begin_effect, begin_found, finish_effect}
use Rattle.desk.specs.Effects.{right_effect, accepted, numbered, succeed_effect}
use Rattle.desk.specs.Succession.{installed_by, is_latest, IsInForce}
use Rattle.desk.specs.Effects.{Purpose, purpose_found, next_reservation, for_reply, for_deposit}
use Rattle.desk.specs.{Outcome.Outcome, Outcome.Cause, Outcome.cause_of, Texts.octets_for, Effects.calibrate_effect}
use Rattle.desk.specs.{Effects.name_of, declared.fault.Fault.Fault, MachineStep.HasEffect, Viewers.viewer_in}
use Rattle.desk.specs.declared.fault.Fault.TheVariants as fault
use Rattle.desk.proofs.journeys.Branches.{if_has, unless_has, right_has}
use Rattle.desk.proofs.journeys.StepFacts.{shows_none, tokens_none, answers_none}
use Rattle.desk.proofs.journeys.Views.{both_true, same_octets}
use Rattle.desk.proofs.journeys.Branches.{stamp_has, deposit_has}

-- what an identity is told from others by
is_same : (i latest : InstalledValue) → latest.certificate ≡ i.certificate → latest.chain ≡ i.chain → latest ≡ i
is_same i latest certificate chain =
    ap (λ x. installed_of x latest.chain) certificate ∙ ap (installed_of i.certificate) chain

pub latest_where : (i : InstalledValue) (latest : Option InstalledValue) → is_latest i latest ≡ true → latest ≡ Some i
latest_where i None e = cc
latest_where i (Some latest) e =
    let both = both_true (bytes_eq latest.certificate i.certificate) (bytes_eq latest.chain i.chain) e in
    ap Some (is_same i latest (same_octets latest.certificate i.certificate both.0)
    (same_octets latest.chain i.chain both.1))

-- an effect that installs nothing
abbrev InstallsNone : Effect → Type 0
InstallsNone e = (b : History) → latest_identity (e.adds ++ b) ≡ latest_identity b

refused_none : (f : Fault) → InstallsNone (only (Refused f))
refused_none f b = refl

stamp_none : (u : Purpose) → ((r : ReservationValue) (token : List ℕ) (b : History)
    → latest_identity (u.keeping.adds r.serial token ∷ Reserved r ∷ b) ≡ latest_identity b)
    → (s : Setting) (name octets : List ℕ) (o : Outcome) (b : History) (f : Finding)
    → InstallsNone (purpose_found u s name octets o b f)
stamp_none u none s name octets o b f =
    stamp_has InstallsNone u s name octets o b (λ rule c. refl) (λ cause c. refl) f
    (λ plan is left. (λ cause c. refl, λ token. none (next_reservation s name plan octets b) token))

begin_none : (s : Setting) (account octets : List ℕ) (plan : StampPlan) (b : History) (refused : Option Cause)
    → InstallsNone (begin_effect s account plan octets b refused)
begin_none s account octets plan b None c = refl
begin_none s account octets plan b (Some cause) c = refl

begin_found_none : (s : Setting) (account octets : List ℕ) (o : Outcome) (b : History) (f : Finding)
    → InstallsNone (begin_found s account octets o b f)
begin_found_none s account octets o b (Fails rule) = λ c. refl
begin_found_none s account octets o b (Unanswered cause) = λ c. refl
begin_found_none s account octets o b (Allowed plan) = begin_none s account octets plan b (no_number o b)

adds_none : (e : Effect) → e.adds ≡ [] → InstallsNone e
adds_none e none b = ap (λ xs. latest_identity (xs ++ b)) none

-- What holds of the identity that was installed last and of what is in force, and of each identity that was just
-- brought, holds after a command.
abbrev Brings : (Option InstalledValue → InForce → Type 0) → InForce → InForce → History → Effect → Type 0
Brings Q before next b e = Q (latest_identity b) before → Q (latest_identity (e.adds ++ b)) (brought before next e.says)

abbrev IsOfBrought : (Option InstalledValue → InForce → Type 0) → Type 0
IsOfBrought Q = (next : InForce) → Q (Some (installed_by next.identity)) next

succeeded_brings : (Q : Option InstalledValue → InForce → Type 0) → IsOfBrought Q
    → (before next : InForce) (o : Outcome) (b : History) (latest : Bool)
    → is_latest (installed_by next.identity) (latest_identity b) ≡ latest
    → Brings Q before next b (succeed_effect o (installed_by next.identity) latest)
succeeded_brings Q first before next o b true e =
    λ k. subst (λ x. Q x next) (sym (latest_where (installed_by next.identity) (latest_identity b) e)) (first next)
succeeded_brings Q first before next o b false e =
    unless_has (Brings Q before next b) (λ f k. k) (cause_of o.adding)
    (accepted (Installed (installed_by next.identity)))
    (λ k. first next)

still : (Q : Option InstalledValue → InForce → Type 0) (before : InForce) (b : History) (e : Effect) → InstallsNone e
    → Q (latest_identity b) before → Q (latest_identity (e.adds ++ b)) before
still Q before b e none k = subst (λ x. Q x before) (sym (none b)) k

kept_by : (Q : Option InstalledValue → InForce → Type 0) → IsOfBrought Q
    → (s : Setting) (c : Command) (o : Outcome) (b : History) (e : Effect) → HasEffect s c o b e
    → Q (latest_identity b) s.in_force → Q (latest_identity (e.adds ++ b)) (in_force_after s.in_force c e.says)
kept_by Q first s (Stamp account reading octets) o b e h k =
    still Q s.in_force b e
    (subst InstallsNone (sym h.2) (stamp_none for_reply (λ r token c. refl) s (name_of account) octets o b h.0)) k
kept_by Q first s (Begin account reading octets) o b e h k =
    still Q s.in_force b e
    (subst InstallsNone (sym h.2) (begin_found_none s (name_of account) octets o b h.0)) k
kept_by Q first s (Finish p signature) o b e h k =
    still Q s.in_force b e
    (subst InstallsNone (sym h)
    (unless_has InstallsNone refused_none (no_seal o) (finish_effect p signature) (λ c. refl))) k
kept_by Q first s (Abandon p) o b e h k =
    still Q s.in_force b e
    (subst InstallsNone (sym h) (λ c. refl)) k
kept_by Q first s (Deposit a reading reference bytes) o b e h k =
    still Q s.in_force b e
    (deposit_has InstallsNone refused_none s a reading reference bytes o b (λ d is c. refl)
    (λ unused spelled f found. stamp_none (for_deposit a.name reference bytes) (λ r token c. refl) s a.name
    (octets_for s.file a bytes) o b f) (nat_le (length bytes) 1_048_576) e h) k
kept_by Q first s (Show a n) o b e h k =
    still Q s.in_force b e
    (adds_none e (ap (λ x. x.adds) h ∙ shows_none (cause_of o.searching) _ (seen_by (viewer_in s.file a.name) n b))) k
kept_by Q first s (Token a n) o b e h k =
    still Q s.in_force b e
    (adds_none e (ap (λ x. x.adds) h
    ∙ tokens_none (cause_of o.searching) _ (token_of n b) (seen_by (viewer_in s.file a.name) n b))) k
kept_by Q first s (ListAll a) o b e h k =
    still Q s.in_force b e
    (adds_none e (ap (λ x. x.adds) h ∙ answers_none (cause_of o.looking) _)) k
kept_by Q first s (Grant a n reader) o b e h k =
    let entry = Granted n reader in
    let d = right_effect s.file a.name reader o entry (seen_by (viewer_in s.file a.name) n b) in
    still Q s.in_force b e
    (subst InstallsNone (sym h) (unless_has InstallsNone refused_none (cause_of o.searching) d
    (right_has InstallsNone refused_none s.file a.name reader o entry (seen_by (viewer_in s.file a.name) n b)
    (λ x is owns c. refl)))) k
kept_by Q first s (Revoke a n reader) o b e h k =
    let entry = Revoked n reader in
    let d = right_effect s.file a.name reader o entry (seen_by (viewer_in s.file a.name) n b) in
    still Q s.in_force b e
    (subst InstallsNone (sym h) (unless_has InstallsNone refused_none (cause_of o.searching) d
    (right_has InstallsNone refused_none s.file a.name reader o entry (seen_by (viewer_in s.file a.name) n b)
    (λ x is owns c. refl)))) k
kept_by Q first s (Calibrate x) o b e h k =
    let backwards : Effect = only (Refused fault.Store) in
    still Q s.in_force b e
    (subst InstallsNone (sym h)
    (unless_has InstallsNone refused_none (cause_of o.adding) (calibrate_effect x b)
    (if_has InstallsNone (is_backwards x (latest_calibration b)) backwards
    (numbered (Calibrated x) (length (calibrations b) + 1)) (refused_none fault.Store) (λ c. refl)))) k
kept_by Q first s (Hold x) o b e h k =
    still Q s.in_force b e
    (subst InstallsNone (sym h)
    (unless_has InstallsNone refused_none (cause_of o.adding) (numbered (Held x) (length (holds b) + 1)) (λ c. refl))) k
kept_by Q first s (Succeed next) o b e h k =
    let i = installed_by next.identity in
    subst (Brings Q s.in_force next b) (sym h)
    (unless_has (Brings Q s.in_force next b) (λ f j. j) (cause_of o.looking)
    (succeed_effect o i (is_latest i (latest_identity b)))
    (succeeded_brings Q first s.in_force next o b (is_latest i (latest_identity b)) refl)) k

-- what is in force after a step is the identity that was installed last, where it was so before
pub in_force_kept : (s : Setting) (c : Command) (o : Outcome) (b : History) (e : Effect) → HasEffect s c o b e
    → IsInForce s.in_force b → IsInForce (in_force_after s.in_force c e.says) (e.adds ++ b)
in_force_kept = kept_by (λ latest k. latest ≡ Some (installed_by k.identity)) (λ next. refl)

-- and so it is where there may have been none
abbrev pub IsOf : Option InstalledValue → InForce → Type 0
IsOf latest k = (i : InstalledValue) → latest ≡ Some i → i ≡ installed_by k.identity

only_one : (x i : InstalledValue) → Some x ≡ Some i → i ≡ x
only_one x i e = cc

pub latest_kept : (s : Setting) (c : Command) (o : Outcome) (b : History) (e : Effect) → HasEffect s c o b e
    → IsOf (latest_identity b) s.in_force → IsOf (latest_identity (e.adds ++ b)) (in_force_after s.in_force c e.says)
latest_kept = kept_by IsOf (λ next. only_one (installed_by next.identity))

pub of_in_force : (k : InForce) (b : History) → IsInForce k b → IsOf (latest_identity b) k
of_in_force k b is i found = only_one (installed_by k.identity) i (sym is ∙ found)

-- what was brought is the identity that was installed last
abbrev BringsDone : InForce → History → Effect → Type 0
BringsDone next b e = e.says ≡ Done → IsInForce next (e.adds ++ b)

not_done : (f : Fault) (A : Type 0) → Refused f ≡ Done → A
not_done f A e = cc

opened_brings : (next : InForce) (o : Outcome) (b : History) (latest : Bool)
    → is_latest (installed_by next.identity) (latest_identity b) ≡ latest
    → BringsDone next b (succeed_effect o (installed_by next.identity) latest)
opened_brings next o b true e = λ done. latest_where (installed_by next.identity) (latest_identity b) e
opened_brings next o b false e =
    unless_has (BringsDone next b) (λ f. not_done f (IsInForce next b)) (cause_of o.adding)
    (accepted (Installed (installed_by next.identity))) (λ done. refl)

pub brought_in_force : (s : Setting) (next : InForce) (o : Outcome) (b : History) (e : Effect)
    → HasEffect s (Succeed next) o b e → e.says ≡ Done → IsInForce next (e.adds ++ b)
brought_in_force s next o b e h =
    let i = installed_by next.identity in
    subst (BringsDone next b) (sym h)
    (unless_has (BringsDone next b) (λ f. not_done f (IsInForce next b)) (cause_of o.looking)
    (succeed_effect o i (is_latest i (latest_identity b)))
    (opened_brings next o b (is_latest i (latest_identity b)) refl))
