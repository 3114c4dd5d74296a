-- Of a book that is closed for tokens nothing is given out.
use Rattle.std.proofs.Common.{◌≡◌, ℕ, zero, suc, ℤ, pos, ◌≤◌, ◌||◌, nat_le, cond, Bool, true, false, List, [], ◌∷◌}
use Rattle.std.proofs.Common.{◌++◌, drop, length, map, Option, Some, None}
use Rattle.std.proofs.Common.{option_map, refl, sym, ap, ◌∙◌, subst, arith}
use Rattle.std.proofs.lemmas.Bool.Decides.{nat_tests}
use Rattle.std.specs.Str.{bytes_eq}
use Rattle.gentime.specs.GenTime.{last_moment}
use Rattle.policy.specs.Record.{AccountValue, CounterValue}
use Rattle.decide.specs.Clock.{IsGood, now_at}
use Rattle.book.specs.History.{Entry, Reserved, Held, Granted, Revoked, Installed, History, CalibrationValue}
use Rattle.book.specs.History.{InstalledValue, ReservationValue, first_of, greatest_of, latest_calibration}
use Rattle.book.specs.{Continuation.holds_all, Continuation.is_closed, History.reservations, History.token_of}
use Rattle.book.specs.{Identities.latest_identity, Readers.Reader, Rights.seen_by, Rows.DepositRow, Sound.is_backwards}
use Rattle.book.proofs.GoingOn.{all_held}
use Rattle.desk.specs.Closed.{IsUngranted, IsUngrantedBy, GivesNothingOut, StaysClosed}
use Rattle.desk.specs.Command.{Setting, Command, Stamp, Begin, Finish, Abandon, Deposit, Show, Token, ListAll, Grant}
use Rattle.desk.specs.Command.{Revoke, Calibrate, Hold, Succeed, PendingValue, Answer, Stamped, Rejected, Begun, Kept}
use Rattle.desk.specs.Command.{Shown, Listed, Done, Numbered, Refused}
use Rattle.desk.specs.Effects.{Effect, only, unless, fault_of, right_effect, accepted, show_effect, token_effect}
use Rattle.desk.specs.Effects.{no_sight, no_seal, known_effect, succeed_effect, calibrate_effect}
use Rattle.desk.specs.Effects.{Purpose, purpose_found, for_reply, for_deposit, begin_found, name_of, finish_effect}
use Rattle.desk.specs.Findings.{Finding, Fails, Unanswered, Allowed, Finds}
use Rattle.desk.specs.{Facts.clock_of, Facts.is_held_at, Facts.now_in, Outcome.Outcome, Outcome.Cause, Outcome.cause_of}
use Rattle.desk.specs.{Serials.given_by, MachineStep.HasEffect, MachineStep.KeepsWithinSize, Succession.installed_by}
use Rattle.desk.specs.{Succession.is_latest, Texts.octets_for, Viewers.viewer_in, declared.fault.Fault.Fault}
use Rattle.tsp.specs.declared.rule.Rule.{Rule}
use Rattle.desk.specs.declared.fault.Fault.TheVariants as fault
use Rattle.desk.proofs.journeys.Branches.{if_has, unless_has, right_has, deposit_has}

-- ---- the clock

is_within : (now : ℕ) → now ≤ last_moment → nat_le now last_moment ≡ true
is_within now within = grind (arith, nat_tests)

held_then : (b : History) (now : ℕ) → is_closed b ≡ true → now ≤ last_moment → is_held_at (Some (pos now)) b ≡ true
held_then b now closed within =
    rw (is_within now within, all_held b now closed (omega (arith, within))) refl

pub never_good : (counter : CounterValue) (reading : ℤ) (b : History) → is_closed b ≡ true
    → IsGood counter (clock_of reading b) → ⊥
never_good counter reading b closed good =
    let now : now_in reading (latest_calibration b) ≡ Some (pos good.now) =
    ap (option_map (now_at reading)) good.calibrated ∙ ap Some good.stated in
    let held : is_held_at (now_in reading (latest_calibration b)) b ≡ true =
    ap (λ moment. is_held_at moment b) now ∙ held_then b good.now closed good.statable in
    let free = good.free in
    cc

-- ---- the commands

-- nothing is given out, by any command
record IsQuiet (e : Effect) : Type 0 where
  unreserved : reservations e.adds ≡ []
  unsigned : e.asks ≡ None
  ungranted : IsUngranted e.says

refused_only : (f : Fault) → IsQuiet (only (Refused f))
refused_only f = record { unreserved = refl; unsigned = refl; ungranted = tt }

module _ (s : Setting) (reading : ℤ) (o : Outcome) (b : History) (closed : is_closed b ≡ true) where
  stamp_quiet : (u : Purpose) → ((rule : Rule) → IsUngranted (u.rejects rule))
      → ((cause : Cause) → IsUngranted (u.refuses cause)) → (account : Option AccountValue) (octets : List ℕ)
      (f : Finding) → Finds s.file account reading octets o b f
      → IsQuiet (purpose_found u s (name_of account) octets o b f)
  stamp_quiet u rejects refuses account octets (Fails rule) finds =
      record { unreserved = refl; unsigned = refl; ungranted = rejects rule }
  stamp_quiet u rejects refuses account octets (Unanswered cause) finds =
      record { unreserved = refl; unsigned = refl; ungranted = refuses cause }
  stamp_quiet u rejects refuses account octets (Allowed plan) finds =
      absurd (never_good s.file.counter reading b closed finds.0.good.0)

  begin_quiet : (account : Option AccountValue) (octets : List ℕ) (f : Finding)
      → Finds s.file account reading octets o b f → IsQuiet (begin_found s (name_of account) octets o b f)
  begin_quiet account octets (Fails rule) finds = record { unreserved = refl; unsigned = refl; ungranted = tt }
  begin_quiet account octets (Unanswered cause) finds = record { unreserved = refl; unsigned = refl; ungranted = tt }
  begin_quiet account octets (Allowed plan) finds =
      absurd (never_good s.file.counter reading b closed finds.0.good.0)

  known_quiet : (bytes : List ℕ) (d : DepositRow) → IsQuiet (known_effect bytes d)
  known_quiet bytes d = go (bytes_eq d.bytes bytes) where
    go : (same : Bool) → IsQuiet (only (cond same (Kept d.serial false) (Refused fault.Conflict)))
    go true = record { unreserved = refl; unsigned = refl; ungranted = tt }
    go false = record { unreserved = refl; unsigned = refl; ungranted = tt }

  deposit_quiet : (a : AccountValue) (reference bytes : List ℕ) (e : Effect) (within : Bool)
      → KeepsWithinSize s a reading reference bytes o b within e → IsQuiet e
  deposit_quiet a reference bytes e within is =
      deposit_has IsQuiet refused_only s a reading reference bytes o b (λ d known. known_quiet bytes d)
      (λ unused spelled f finds. stamp_quiet (for_deposit a.name reference bytes) (λ rule. tt) (λ cause. tt) (Some a)
      (octets_for s.file a bytes) f finds) within e is

shown_quiet : (refused other : Option Cause) (d : Option DepositRow) → IsQuiet (unless refused (show_effect other d))
shown_quiet (Some cause) other d = refused_only (fault_of cause)
shown_quiet None other None = refused_only fault.NotHere
shown_quiet None (Some cause) (Some d) = refused_only (fault_of cause)
shown_quiet None None (Some d) = record { unreserved = refl; unsigned = refl; ungranted = tt }

token_quiet : (refused other : Option Cause) (token : Option (List ℕ)) (d : Option DepositRow)
    → IsQuiet (unless refused (token_effect other token d))
token_quiet (Some cause) other token d = refused_only (fault_of cause)
token_quiet None other token None = refused_only fault.NotHere
token_quiet None (Some cause) token (Some d) = refused_only (fault_of cause)
token_quiet None None None (Some d) = refused_only fault.NotHere
token_quiet None None (Some token) (Some d) = record { unreserved = refl; unsigned = refl; ungranted = tt }

-- but for a finish
given : (c : Command) (e : Effect) → IsQuiet e → (IsUngranted e.says → IsUngrantedBy c e.says) → GivesNothingOut c e
given c e quiet by =
    record { unreserved = quiet.unreserved; unsigned = quiet.unsigned; ungranted = by quiet.ungranted }

finished : (p : PendingValue) (signature : List ℕ) (refused : Option Cause)
    → GivesNothingOut (Finish p signature) (unless refused (finish_effect p signature))
finished p signature None = record { unreserved = refl; unsigned = refl; ungranted = tt }
finished p signature (Some cause) = record { unreserved = refl; unsigned = refl; ungranted = tt }

right_quiet : (s : Setting) (a : AccountValue) (n : ℕ) (reader : Reader) (o : Outcome) (b : History) (entry : Entry)
    → IsQuiet (accepted entry)
    → IsQuiet (unless (cause_of o.searching)
    (right_effect s.file a.name reader o entry (seen_by (viewer_in s.file a.name) n b)))
right_quiet s a n reader o b entry one =
    let seen = seen_by (viewer_in s.file a.name) n b in
    unless_has IsQuiet refused_only (cause_of o.searching) (right_effect s.file a.name reader o entry seen)
    (right_has IsQuiet refused_only s.file a.name reader o entry seen (λ d is owns. one))

calibrated_quiet : (c : CalibrationValue) (b : History) → IsQuiet (calibrate_effect c b)
calibrated_quiet c b =
    if_has IsQuiet (is_backwards c (latest_calibration b)) (only (Refused fault.Store)) _ (refused_only fault.Store)
    (record { unreserved = refl; unsigned = refl; ungranted = tt })

succeeded_quiet : (o : Outcome) (i : InstalledValue) (latest : Bool) → IsQuiet (succeed_effect o i latest)
succeeded_quiet o i true = record { unreserved = refl; unsigned = refl; ungranted = tt }
succeeded_quiet o i false = unless_has IsQuiet refused_only (cause_of o.adding) (accepted (Installed i))
    (record { unreserved = refl; unsigned = refl; ungranted = tt })

pub nothing_given : (s : Setting) (c : Command) (o : Outcome) (b : History) (e : Effect) → is_closed b ≡ true
    → HasEffect s c o b e → GivesNothingOut c e
nothing_given s (Stamp account reading octets) o b e closed (f, finds, is) =
    given _ e (subst IsQuiet (sym is) (stamp_quiet s reading o b closed for_reply (λ rule. tt) (λ cause. tt)
    account octets f finds)) (λ quiet. quiet)
nothing_given s (Begin account reading octets) o b e closed (f, finds, is) =
    given _ e (subst IsQuiet (sym is) (begin_quiet s reading o b closed account octets f finds)) (λ quiet. quiet)
nothing_given s (Finish p signature) o b e closed is =
    subst (GivesNothingOut (Finish p signature)) (sym is) (finished p signature (no_seal o))
nothing_given s (Abandon p) o b e closed is =
    given _ e (subst IsQuiet (sym is) (record { unreserved = refl; unsigned = refl; ungranted = tt })) (λ quiet. quiet)
nothing_given s (Deposit a reading reference bytes) o b e closed is =
    given _ e (deposit_quiet s reading o b closed a reference bytes e (nat_le (length bytes) 1_048_576) is)
    (λ quiet. quiet)
nothing_given s (Show a n) o b e closed is =
    given _ e (subst IsQuiet (sym is) (shown_quiet (cause_of o.searching) (no_sight o)
    (seen_by (viewer_in s.file a.name) n b))) (λ quiet. quiet)
nothing_given s (Token a n) o b e closed is =
    given _ e (subst IsQuiet (sym is) (token_quiet (cause_of o.searching) (no_sight o) (token_of n b)
    (seen_by (viewer_in s.file a.name) n b))) (λ quiet. quiet)
nothing_given s (ListAll a) o b e closed is =
    given _ e (subst IsQuiet (sym is) (unless_has IsQuiet refused_only (cause_of o.looking) _
    (record { unreserved = refl; unsigned = refl; ungranted = tt }))) (λ quiet. quiet)
nothing_given s (Grant a n reader) o b e closed is =
    given _ e (subst IsQuiet (sym is) (right_quiet s a n reader o b (Granted n reader)
    (record { unreserved = refl; unsigned = refl; ungranted = tt }))) (λ quiet. quiet)
nothing_given s (Revoke a n reader) o b e closed is =
    given _ e (subst IsQuiet (sym is) (right_quiet s a n reader o b (Revoked n reader)
    (record { unreserved = refl; unsigned = refl; ungranted = tt }))) (λ quiet. quiet)
nothing_given s (Calibrate c) o b e closed is =
    given _ e (subst IsQuiet (sym is) (unless_has IsQuiet refused_only (cause_of o.adding) (calibrate_effect c b)
    (calibrated_quiet c b))) (λ quiet. quiet)
nothing_given s (Hold h) o b e closed is =
    given _ e (subst IsQuiet (sym is) (unless_has IsQuiet refused_only (cause_of o.adding) _
    (record { unreserved = refl; unsigned = refl; ungranted = tt }))) (λ quiet. quiet)
nothing_given s (Succeed next) o b e closed is =
    given _ e (subst IsQuiet (sym is) (unless_has IsQuiet refused_only (cause_of o.looking)
    (succeed_effect o (installed_by next.identity) (is_latest (installed_by next.identity) (latest_identity b)))
    (succeeded_quiet o (installed_by next.identity) (is_latest (installed_by next.identity) (latest_identity b)))))
    (λ quiet. quiet)

-- ---- what it leaves

unreserved_cut : (k : ℕ) (es : List Entry) (b : History) → reservations es ≡ []
    → reservations (drop k es ++ b) ≡ reservations b
unreserved_cut zero [] b none = refl
unreserved_cut zero (Reserved r ∷ es) b none = absurd cc
unreserved_cut zero (_ ∷ es) b none = unreserved_cut zero es b none
unreserved_cut (suc k) [] b none = refl
unreserved_cut (suc k) (Reserved r ∷ es) b none = absurd cc
unreserved_cut (suc k) (_ ∷ es) b none = unreserved_cut k es b none

unreserved_rest : (k : ℕ) (es : List Entry) → reservations es ≡ [] → reservations (drop k es) ≡ []
unreserved_rest zero es none = none
unreserved_rest (suc k) [] none = refl
unreserved_rest (suc k) (Reserved r ∷ es) none = absurd cc
unreserved_rest (suc k) (_ ∷ es) none = unreserved_rest k es none

or_true : (one other : Bool) → other ≡ true → (one || other) ≡ true
or_true true other is = refl
or_true false other is = is

still_closed : (es : List Entry) (b : History) → is_closed b ≡ true → is_closed (es ++ b) ≡ true
still_closed [] b closed = closed
still_closed (Held h ∷ es) b closed = or_true (holds_all h) (is_closed (es ++ b)) (still_closed es b closed)
still_closed (_ ∷ es) b closed = still_closed es b closed

none_given : (says : Answer) (committed : List Entry) → reservations committed ≡ [] → given_by None says committed ≡ []
none_given (Begun p) committed none = ap (map (λ (r : ReservationValue). r.serial)) none
none_given (Stamped serial reply) committed none = refl
none_given (Rejected rule) committed none = refl
none_given (Kept number is_new) committed none = refl
none_given (Shown octets) committed none = refl
none_given (Listed rows) committed none = refl
none_given Done committed none = refl
none_given (Numbered number) committed none = refl
none_given (Refused f) committed none = refl

pub stays_closed : (s : Setting) (c : Command) (o : Outcome) (b : History) (e : Effect) (k : ℕ) → is_closed b ≡ true
    → HasEffect s c o b e → StaysClosed k e b
stays_closed s c o b e k closed has =
    let nothing = nothing_given s c o b e closed has in
    let same : reservations (drop k e.adds ++ b) ≡ reservations b = unreserved_cut k e.adds b nothing.unreserved in
    record {
      closed = still_closed (drop k e.adds) b closed;
      serial = ap greatest_of same;
      moment = ap (λ (rs : List ReservationValue). option_map (λ (r : ReservationValue). r.gen_time) (first_of rs)) same;
      given = ap (λ asks. given_by asks e.says (drop k e.adds)) nothing.unsigned
          ∙ none_given e.says (drop k e.adds) (unreserved_rest k e.adds nothing.unreserved);
    }
