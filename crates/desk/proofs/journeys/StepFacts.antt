-- What a step adds fits, is true of texts and hashes, and rises.
use Rattle.std.proofs.Common.{zero, ◌≡◌, ℕ, suc, ◌+◌, ◌⊎◌, nat_le, cond, ℤ, Bool, true, false, List, [], ◌∷◌, ◌++◌}
use Rattle.std.proofs.Common.{length}
use Rattle.std.proofs.Common.{Option, Some, None, drop, refl, sym, ◌∙◌, ap, subst, inl, inr}
use Rattle.std.proofs.lemmas.Bool.{eq-eqb}
use Rattle.std.specs.Option.{option_and_then}
use Rattle.sha2.specs.Sha256.{sha256}
use Rattle.policy.specs.Record.{AccountValue, PolicyValue}
use Rattle.book.specs.History.{Entry, Reserved, Sealed, Deposited, Calibrated, Held, Granted, Revoked, History}
use Rattle.book.specs.History.{ReservationValue, CalibrationValue, greatest_serial, latest_calibration}
use Rattle.book.specs.History.{Installed, InstalledValue, holds, token_of, deposit_at, deposit_under}
use Rattle.book.specs.Rights.{seen_by, shown_to, may_read}
use Rattle.book.specs.Sound.{Along, Fits, FitsRight, greatest_number, is_backwards}
use Rattle.book.specs.{Identities.latest_identity, Readers.Reader, Readers.Viewer, Rows.DepositRow, Values.deposit_of}
use Rattle.desk.specs.Findings.{StampPlan, IsAllowed, Finding, Fails, Unanswered, Allowed, Finds}
use Rattle.desk.specs.Command.{Setting, Command, Stamp, Begin, Finish, Abandon, Deposit, Show, Token}
use Rattle.desk.specs.Command.{ListAll, Grant, Revoke, Calibrate, Hold, Succeed, Answer}
use Rattle.desk.specs.Effects.{Effect, only, unless, no_number, no_seal}
use Rattle.desk.specs.Effects.{begin_effect, begin_found, finish_effect}
use Rattle.desk.specs.Effects.{show_effect, token_effect, right_effect, calibrate_effect}
use Rattle.desk.specs.Succession.{installed_by, is_latest, IsNameable}
use Rattle.desk.specs.Effects.{Purpose, purpose_found, for_reply, for_deposit}
use Rattle.desk.specs.{Content.IsTrueOf, Content.IsNaming, Outcome.Outcome, Outcome.Cause, Outcome.cause_of}
use Rattle.desk.specs.{Texts.octets_for, Texts.request_for, Texts.token_with, Effects.next_reservation}
use Rattle.desk.specs.{Effects.numbered, Effects.succeed_effect, Effects.name_of, Names.IsNameableFor}
use Rattle.desk.specs.{MachineStep.HasEffect, MachineStep.IsMet, MachineRuns.IsProper, Viewers.viewer_in}
use Rattle.desk.proofs.journeys.Sound.{TextLaws, IsGoodEntry, AreGood, reserved_good, number_left, not_full}
use Rattle.desk.proofs.journeys.Branches.{stamp_has, deposit_has}
use Rattle.desk.proofs.{journeys.Branches.unless_has, journeys.Branches.right_has, journeys.Views.fits_seal}

-- Each entry that is added is good after those that are added before it, where the authority that is named is the one in
-- force.
abbrev pub AddsGood : Type 0 → List Entry → History → Type 0
AddsGood P [] b = Unit {0}
AddsGood P (e ∷ es) b = IsGoodEntry P e (es ++ b) × AddsGood P es b

named_good : (P : Type 0) → P → (e : Entry) (b : History) → IsGoodEntry P e b → IsGoodEntry (Unit {0}) e b
named_good P p e b a = record {
  fits = a.fits;
  true_of = a.true_of;
  rising = a.rising;
  naming = λ u. a.naming p;
}

pub adds_good : (P : Type 0) → P → (es : List Entry) (b : History) → AddsGood P es b → AreGood b → AreGood (es ++ b)
adds_good P p [] b a g = g
adds_good P p (e ∷ es) b a g = (named_good P p e (es ++ b) a.0, adds_good P p es b a.1 g)

pub adds_fit : (P : Type 0) (es : List Entry) (b : History) → AddsGood P es b → Along Fits b → Along Fits (es ++ b)
adds_fit P [] b a g = g
adds_fit P (e ∷ es) b a g = (a.0.fits, adds_fit P es b a.1 g)

pub adds_true : (P : Type 0) (es : List Entry) (b : History) → AddsGood P es b → Along IsTrueOf b
    → Along IsTrueOf (es ++ b)
adds_true P [] b a g = g
adds_true P (e ∷ es) b a g = (a.0.true_of, adds_true P es b a.1 g)

pub adds_names : (P : Type 0) → P → (es : List Entry) (b : History) → AddsGood P es b → Along IsNaming b
    → Along IsNaming (es ++ b)
adds_names P p [] b a g = g
adds_names P p (e ∷ es) b a g = (a.0.naming p, adds_names P p es b a.1 g)

-- a beginning of what is added is good too
pub adds_cut : (P : Type 0) (k : ℕ) (es : List Entry) (b : History) → AddsGood P es b → AddsGood P (drop k es) b
adds_cut P zero es b a = a
adds_cut P (suc k) [] b a = a
adds_cut P (suc k) (e ∷ es) b a = adds_cut P k es b a.1

-- a new deposit fits after its reservation
deposited_good : (P : Type 0) (owner reference bytes token : List ℕ) (b : History) → Along Fits b → (r : ReservationValue)
    → IsGoodEntry P (Reserved r) b
    → r.account ≡ owner → r.digest ≡ sha256 bytes → deposit_under owner reference b ≡ None
    → IsGoodEntry P (Deposited (deposit_of r.serial owner reference bytes) token) (Reserved r ∷ b)
deposited_good P owner reference bytes token b g r new own digest unused = record {
  fits = record { sealed = fits_seal r b g new.fits.rises; owner = own; unused = unused };
  true_of = record { reservation = r; reserved = rw (eq-eqb r.serial r.serial refl); digest = digest };
  rising = tt;
  naming = λ k. tt;
}

-- What a command that adds one entry at most adds.
abbrev pub IsAtMost : Entry → Effect → Type 0
IsAtMost entry e = (e.adds ≡ []) ⊎ (e.adds ≡ entry ∷ [])

pub at_most_unless : (entry : Entry) (refused : Option Cause) (e : Effect) → IsAtMost entry e
    → IsAtMost entry (unless refused e)
at_most_unless entry None e h = h
at_most_unless entry (Some cause) e h = inl refl

at_most_if : (entry : Entry) (t : Bool) (d e : Effect) → IsAtMost entry d → IsAtMost entry e
    → IsAtMost entry (cond t d e)
at_most_if entry true d e h k = h
at_most_if entry false d e h k = k

at_most_good : (P : Type 0) (entry : Entry) (e : Effect) (b : History) → Along Fits b → IsGoodEntry P entry b → IsAtMost entry e
    → AddsGood P e.adds b
at_most_good P entry e b g new (inl h) = rw h tt
at_most_good P entry e b g new (inr h) = rw h (new, tt)

none_good : (P : Type 0) (e : Effect) (b : History) → Along Fits b → e.adds ≡ [] → AddsGood P e.adds b
none_good P e b g h = rw h tt

-- what is seen is a deposit
shown_is : (viewer : Viewer) (reads : Bool) (o : Option DepositRow) (d : DepositRow)
    → option_and_then (shown_to viewer reads) o ≡ Some d
    → (x : DepositRow) × (o ≡ Some x)
shown_is viewer reads None d e = cc
shown_is viewer reads (Some x) d e = (x, refl)

pub right_seen : (viewer : Viewer) (n : ℕ) (b : History) (d : DepositRow) → seen_by viewer n b ≡ Some d
    → FitsRight n b
right_seen viewer n b d e =
    let found = shown_is viewer (may_read viewer n b) (deposit_at n b) d e in
    record { deposit = found.0; deposited = found.1 }

pub right_at_most : (file : PolicyValue) (account : List ℕ) (reader : Reader) (o : Outcome) (entry : Entry)
    (seen : Option DepositRow) → IsAtMost entry (right_effect file account reader o entry seen)
right_at_most file account reader o entry seen =
    right_has (IsAtMost entry) (λ f. inl refl) file account reader o entry seen (λ d is owns. inr refl)

begin_good : TextLaws → (s : Setting) → IsProper s
    → (account : Option AccountValue) (name : List ℕ) (reading : ℤ) (octets : List ℕ) (o : Outcome) (b : History)
    → Along Fits b → (plan : StampPlan) → IsAllowed s.file account reading octets b plan → (refused : Option Cause)
    → no_number o b ≡ refused
    → AddsGood (IsNameable s b) (begin_effect s name plan octets b refused).adds b
begin_good laws s proper account name reading octets o b g plan allowed (Some cause) e = tt
begin_good laws s proper account name reading octets o b g plan allowed None e =
    let left = not_full (greatest_serial b) (number_left (nat_le greatest_number (greatest_serial b))
    (cause_of o.growing ∷ cause_of o.adding ∷ []) e) in
    (reserved_good laws s proper account name reading octets b plan allowed left, tt)

-- a token is kept well after the reservation of its plan
abbrev IsGoodAfter : Setting → Option AccountValue → List ℕ → ℤ → List ℕ → History → Purpose → Type 0
IsGoodAfter s account name reading octets b u =
    (plan : StampPlan) (token : List ℕ) → IsAllowed s.file account reading octets b plan
    → IsGoodEntry (IsNameable s b) (Reserved (next_reservation s name plan octets b)) b
    → IsGoodEntry (IsNameable s b) (u.keeping.adds (next_reservation s name plan octets b).serial token)
    (Reserved (next_reservation s name plan octets b) ∷ b)

stamp_good : TextLaws → (s : Setting) → IsProper s
    → (u : Purpose) (account : Option AccountValue) (name : List ℕ) (reading : ℤ) (octets : List ℕ) (o : Outcome)
    (b : History) → IsGoodAfter s account name reading octets b u → (f : Finding)
    → Finds s.file account reading octets o b f → AddsGood (IsNameable s b) (purpose_found u s name octets o b f).adds b
stamp_good laws s proper u account name reading octets o b kept f found =
    stamp_has (λ e. AddsGood (IsNameable s b) e.adds b) u s name octets o b (λ rule. tt) (λ cause. tt) f
    (λ plan is why.
    let allowed = (subst (Finds s.file account reading octets o b) is found).0 in
    let left = not_full (greatest_serial b) (number_left (nat_le greatest_number (greatest_serial b))
    (cause_of o.growing ∷ cause_of o.adding ∷ []) why) in
    let good = reserved_good laws s proper account name reading octets b plan allowed left in
    (λ cause. (good, tt), λ token. (kept plan token allowed good, (good, tt))))

begin_found_good : TextLaws → (s : Setting) → IsProper s
    → (account : Option AccountValue) (name : List ℕ) (reading : ℤ) (octets : List ℕ) (o : Outcome) (b : History)
    → Along Fits b → (f : Finding) → Finds s.file account reading octets o b f
    → AddsGood (IsNameable s b) (begin_found s name octets o b f).adds b
begin_found_good laws s proper account name reading octets o b g (Fails rule) found = tt
begin_found_good laws s proper account name reading octets o b g (Unanswered cause) found = tt
begin_found_good laws s proper account name reading octets o b g (Allowed plan) found =
    begin_good laws s proper account name reading octets o b g plan found.0 (no_number o b) refl

pub shows_none : (refused other : Option Cause) (o : Option DepositRow)
    → (unless refused (show_effect other o)).adds ≡ []
shows_none (Some cause) other o = refl
shows_none None other None = refl
shows_none None (Some cause) (Some d) = refl
shows_none None None (Some d) = refl

pub tokens_none : (refused other : Option Cause) (token : Option (List ℕ)) (o : Option DepositRow)
    → (unless refused (token_effect other token o)).adds ≡ []
tokens_none (Some cause) other token o = refl
tokens_none None other token None = refl
tokens_none None (Some cause) token (Some d) = refl
tokens_none None None token (Some d) = refl

pub answers_none : (refused : Option Cause) (answer : Answer) → (unless refused (only answer)).adds ≡ []
answers_none (Some cause) answer = refl
answers_none None answer = refl

right_good : (P : Type 0) (file : PolicyValue) (account : List ℕ) (reader : Reader) (n : ℕ) (o : Outcome) (b : History)
    (entry : Entry) → (FitsRight n b → IsGoodEntry P entry b)
    → AddsGood P (unless (cause_of o.searching)
    (right_effect file account reader o entry (seen_by (viewer_in file account) n b))).adds b
right_good P file account reader n o b entry new =
    let Q : Effect → Type 0 = λ x. AddsGood P x.adds b in
    let seen = seen_by (viewer_in file account) n b in
    unless_has Q (λ f. tt) (cause_of o.searching) (right_effect file account reader o entry seen)
    (right_has Q (λ f. tt) file account reader o entry seen
    (λ d is owns. (new (right_seen (viewer_in file account) n b d is), tt)))

calibrate_at_most : (c : CalibrationValue) (b : History) → IsAtMost (Calibrated c) (calibrate_effect c b)
calibrate_at_most c b = at_most_if (Calibrated c) (is_backwards c (latest_calibration b)) _ _ (inl refl) (inr refl)

succeed_at_most : (o : Outcome) (i : InstalledValue) (latest : Bool)
    → IsAtMost (Installed i) (succeed_effect o i latest)
succeed_at_most o i true = inl refl
succeed_at_most o i false = at_most_unless _ (cause_of o.adding) _ (inr refl)

-- what a step adds is good, one entry after the other
pub step_adds : TextLaws → (s : Setting) → IsProper s → (c : Command) (o : Outcome) (b : History) (e : Effect)
    → Along Fits b → IsMet c b → HasEffect s c o b e
    → AddsGood (IsNameableFor s c b) e.adds b
step_adds laws s proper (Stamp account reading octets) o b e g met h =
    subst (λ x. AddsGood (IsNameable s b) x.adds b) (sym h.2) (stamp_good laws s proper for_reply account
    (name_of account) reading octets o b
    (λ plan token allowed good. record {
      fits = fits_seal (next_reservation s (name_of account) plan octets b) b g good.fits.rises;
      true_of = tt;
      rising = tt;
      naming = λ k. tt;
    }) h.0 h.1)
step_adds laws s proper (Begin account reading octets) o b e g met h =
    subst (λ x. AddsGood (IsNameable s b) x.adds b) (sym h.2) (begin_found_good laws s proper account
    (name_of account) reading octets o b g h.0 h.1)
step_adds laws s proper (Finish p signature) o b e g met h =
    let w = met.0 in
    let new : IsGoodEntry (Unit {0}) (Sealed p.serial (token_with p signature)) b = record {
      fits = record { reservation = w.reservation; reserved = w.reserved; open_yet = w.open_yet };
      true_of = tt;
      rising = tt;
      naming = λ k. tt;
    } in
    subst (λ x. AddsGood (Unit {0}) x.adds b) (sym h)
    (at_most_good (Unit {0}) (Sealed p.serial (token_with p signature)) (unless (no_seal o)
    (finish_effect p signature)) b g new (at_most_unless _ (no_seal o) (finish_effect p signature)
    (inr refl)))
step_adds laws s proper (Abandon p) o b e g met h = none_good (Unit {0}) e b g (ap (λ x. x.adds) h)
step_adds laws s proper (Deposit a reading reference bytes) o b e g met h =
    let octets = octets_for s.file a bytes in
    deposit_has (λ x. AddsGood (IsNameable s b) x.adds b) (λ f. tt) s a reading reference bytes o b (λ d is. tt)
    (λ unused spelled f found. stamp_good laws s proper (for_deposit a.name reference bytes) (Some a) a.name reading
    octets o b
    (λ plan token allowed good.
    let same = laws.one_request octets plan.request (request_for s.file a bytes) allowed.spelled spelled in
    deposited_good (IsNameable s b) a.name reference bytes token b g (next_reservation s a.name plan octets b) good refl
    (ap (λ r. r.imprint.hash) same) unused) f found) (nat_le (length bytes) 1_048_576) e h
step_adds laws s proper (Show a n) o b e g met h = none_good (Unit {0}) e b g (ap (λ x. x.adds) h
    ∙ shows_none (cause_of o.searching) _ (seen_by (viewer_in s.file a.name) n b))
step_adds laws s proper (Token a n) o b e g met h = none_good (Unit {0}) e b g (ap (λ x. x.adds) h
    ∙ tokens_none (cause_of o.searching) _ (token_of n b) (seen_by (viewer_in s.file a.name) n b))
step_adds laws s proper (ListAll a) o b e g met h = none_good (Unit {0}) e b g (ap (λ x. x.adds) h
    ∙ answers_none (cause_of o.looking) _)
step_adds laws s proper (Grant a n reader) o b e g met h =
    subst (λ x. AddsGood (Unit {0}) x.adds b) (sym h)
    (right_good (Unit {0}) s.file a.name reader n o b (Granted n reader)
    (λ fits. record { fits = fits; true_of = tt; rising = tt; naming = λ k. tt }))
step_adds laws s proper (Revoke a n reader) o b e g met h =
    subst (λ x. AddsGood (Unit {0}) x.adds b) (sym h)
    (right_good (Unit {0}) s.file a.name reader n o b (Revoked n reader)
    (λ fits. record { fits = fits; true_of = tt; rising = tt; naming = λ k. tt }))
step_adds laws s proper (Calibrate c) o b e g met h =
    subst (λ x. AddsGood (Unit {0}) x.adds b) (sym h)
    (at_most_good (Unit {0}) (Calibrated c) (unless (cause_of o.adding) (calibrate_effect c b)) b g
    (record { fits = met; true_of = tt; rising = tt; naming = λ k. tt }) (at_most_unless _ (cause_of o.adding) _
    (calibrate_at_most c b)))
step_adds laws s proper (Hold k) o b e g met h =
    subst (λ x. AddsGood (Unit {0}) x.adds b) (sym h)
    (at_most_good (Unit {0}) (Held k) (unless (cause_of o.adding) (numbered (Held k) (length (holds b) + 1))) b g
    (record { fits = met; true_of = tt; rising = tt; naming = λ k. tt })
    (at_most_unless _ (cause_of o.adding) _ (inr refl)))
step_adds laws s proper (Succeed next) o b e g met h =
    let i = installed_by next.identity in
    let latest = is_latest i (latest_identity b) in
    subst (λ x. AddsGood (Unit {0}) x.adds b) (sym h)
    (at_most_good (Unit {0}) (Installed i) (unless (cause_of o.looking) (succeed_effect o i latest)) b g
    (record { fits = tt; true_of = tt; rising = tt; naming = λ k. tt })
    (at_most_unless _ (cause_of o.looking) _ (succeed_at_most o i latest)))
