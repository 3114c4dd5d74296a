-- Along each journey, what is reserved is given by the rules.
use Rattle.std.proofs.Common.{◌≡◌, ℕ, zero, suc, ◌≤◌, ◌+◌, ℤ, pos, ◌≤ℤ◌, Bool, true, false, List, [], ◌∷◌, ◌++◌}
use Rattle.std.proofs.Common.{drop, reverse, ◌⊎◌, inl, inr, length, Contains, Option, Some, None, refl, sym, ap, ◌∙◌}
use Rattle.std.proofs.{Common.subst, Common.arith, Common.length-append, lemmas.List.Elements.filter_map-append}
use Rattle.std.specs.{Prelude.IfSome, List.AllByRecursion, Option.option_to_list}
use Rattle.policy.specs.{Record.AccountValue, Record.PolicyValue, Sound.IsSound as IsSoundFile}
use Rattle.book.specs.History.{Entry, Reserved, Calibrated, Held, Granted, Revoked, Installed}
use Rattle.book.specs.History.{CalibrationValue, History, HoldValue, ReservationValue, calibrations, hold_in, holds}
use Rattle.book.specs.{History.latest_calibration, History.token_of, Identities.latest_identity, Rights.listed}
use Rattle.book.specs.{Rights.seen_by, Rows.DepositRow, Sound.IsSound, Sound.greatest_number, Sound.is_backwards}
use Rattle.desk.specs.Command.{InForce, Setting, Command, Stamp, Begin, Finish, Abandon, Deposit, Show, Token, ListAll}
use Rattle.desk.specs.Command.{Grant, Revoke, Calibrate, Hold, Succeed, Shown, Listed, Refused}
use Rattle.desk.specs.Effects.{Effect, only, for_reply, for_deposit, name_of, no_number, no_seal, no_sight}
use Rattle.desk.specs.Effects.{next_reservation, begin_found, begin_effect, finish_effect, show_effect}
use Rattle.desk.specs.Effects.{token_effect, reply_or_nothing, calibrate_effect, numbered, succeed_effect, accepted}
use Rattle.desk.specs.Findings.{StampPlan, Finding, Finds, Allowed, IsAllowed}
use Rattle.desk.specs.MachineRuns.{HasProperties, IsProper, IsEntering, Told, Journey, begins, opens, opens_older}
use Rattle.desk.specs.MachineRuns.{shuts, rests, enters, breaks, goes, stops, continues}
use Rattle.desk.specs.{MachineStep.HasEffect, Outcome.Outcome, Outcome.Cause, Outcome.cause_of, Succession.IsNameable}
use Rattle.desk.specs.{Succession.installed_by, Succession.is_latest, Texts.octets_for, Viewers.viewer_in}
use Rattle.desk.specs.declared.fault.Fault.TheVariants as fault
use Rattle.desk.proofs.journeys.Branches.{if_has, unless_has, right_has, stamp_has, deposit_has}
use Rattle.judgement.specs.Journeys.{AreGivenByRules, IsInOrder, KeepsTo, begun_with, reading_in}
use Rattle.judgement.specs.Journeys.{readings_of, row_in, rows_before}
use Rattle.judgement.specs.{Given.IsGivenByRules, Readings.evidence_in, Readings.is_held_by, Past.before_of}
use Rattle.judgement.proofs.Reserved.{Laws, given_by}

-- a stamp was allowed at one of the readings, and this is what was reserved for it
pub record IsReservedAt (file : PolicyValue) (readings : List ℤ) (r : ReservationValue) (b : History) : Type 0 where
  pub s : Setting
  pub by : s.file ≡ file
  pub proper : IsProper s
  pub nameable : IsNameable s b
  pub account : Option AccountValue
  pub reading : ℤ
  pub among : Contains readings reading
  pub counted : reading ≤ℤ pos greatest_number
  pub octets : List ℕ
  pub plan : StampPlan
  pub allowed : IsAllowed s.file account reading octets b plan
  pub is : r ≡ next_reservation s (name_of account) plan octets b

-- ---- members

member_cases : {X : Type 0} (x y : X) (xs : List X) → Contains (x ∷ xs) y → (x ≡ y) ⊎ Contains xs y
member_cases x y xs (zero, below, is) = inl is
member_cases x y xs (suc k, below, is) = inr (k, omega arith, is)

all_of : {X : Type 0} (P : X → Type 0) (xs : List X) (y : X) → AllByRecursion P xs → Contains xs y → P y
all_of P [] y all m = let below = m.1 in absurd (omega arith)
all_of P (x ∷ xs) y all m = elim (member_cases x y xs m) [ inl e ↦ subst P e all.0 | inr m ↦ all_of P xs y all.1 m ]

among_more : (o : Option ℤ) (xs : List ℤ) (y : ℤ) → Contains xs y → Contains (option_to_list o ++ xs) y
among_more None xs y m = m
among_more (Some x) xs y (n, below, is) = (suc n, omega (arith, below), is)

-- ---- entries

module _ (file : PolicyValue) (readings : List ℤ) where
  -- a reservation is one, and a calibration isn't before the readings
  abbrev IsFine : Entry → History → Type 0
  IsFine (Reserved r) b = IsReservedAt file readings r b
  IsFine (Calibrated c) b = AllByRecursion (λ reading. reading ≤ℤ c.reading) readings
  IsFine _ b = Unit {0}

  abbrev AreFine : List Entry → History → Type 0
  AreFine [] b = Unit {0}
  AreFine (entry ∷ es) b = IsFine entry (es ++ b) × AreFine es b

  cut_fine : (k : ℕ) (es : List Entry) (b : History) → AreFine es b → AreFine (drop k es) b
  cut_fine (suc k) (entry ∷ es) b fine = cut_fine k es b fine.1
  cut_fine _ _ b fine = fine

  -- each reservation since the beginning is one, and no later calibration is before its reading
  abbrev pub AreReserved : History → History → Type 0
  AreReserved beginning b =
      (newer older : History) (r : ReservationValue) → b ≡ newer ++ Reserved r ∷ older
      → length beginning ≤ length older
      → (at : IsReservedAt file readings r older)
      × AllByRecursion (λ c. at.reading ≤ℤ c.reading) (calibrations newer)

  -- one later
  later_too : (entry : Entry) (b newer : History) (reading : ℤ) → Contains readings reading → IsFine entry b
      → AllByRecursion (λ c. reading ≤ℤ c.reading) (calibrations newer)
      → AllByRecursion (λ c. reading ≤ℤ c.reading) (calibrations (entry ∷ newer))
  later_too (Calibrated c) b newer reading among fine all = (all_of _ readings reading fine among, all)
  later_too _ b newer reading among fine all = all

  one_more : (beginning : History) (entry : Entry) (b : History) → IsFine entry b → AreReserved beginning b
      → AreReserved beginning (entry ∷ b)
  one_more beginning entry b fine are [] older r is since =
      let here : entry ≡ Reserved r = cc in
      let rest : b ≡ older = cc in
      (subst (λ x. IsFine x older) here (subst (IsFine entry) rest fine), tt)
  one_more beginning entry b fine are (x ∷ newer) older r is since =
      let here : entry ≡ x = cc in
      let rest : b ≡ newer ++ Reserved r ∷ older = cc in
      let before = are newer older r rest since in (
        before.0,
        subst (λ y. AllByRecursion (λ c. before.0.reading ≤ℤ c.reading) (calibrations (y ∷ newer))) here
            (later_too entry b newer before.0.reading before.0.among fine before.1),
      )

  all_more : (beginning : History) (es : List Entry) (b : History) → AreFine es b → AreReserved beginning b
      → AreReserved beginning (es ++ b)
  all_more beginning [] b fine are = are
  all_more beginning (entry ∷ es) b fine are =
      one_more beginning entry (es ++ b) fine.0 (all_more beginning es b fine.1 are)

-- one reading more
reads_more : (file : PolicyValue) (o : Option ℤ) (readings : List ℤ) (beginning b : History)
    → AreReserved file readings beginning b → AreReserved file (option_to_list o ++ readings) beginning b
reads_more file o readings beginning b are newer older r is since =
    let found = are newer older r is since in
    let at = found.0 in (
      record {
        s = at.s;
        by = at.by;
        proper = at.proper;
        nameable = at.nameable;
        account = at.account;
        reading = at.reading;
        among = among_more o readings at.reading at.among;
        counted = at.counted;
        octets = at.octets;
        plan = at.plan;
        allowed = at.allowed;
        is = at.is;
      },
      found.1,
    )

-- ---- commands

module _ (file : PolicyValue) (readings : List ℤ) (b : History) where
  abbrev Q : Effect → Type 0
  Q e = AreFine file readings e.adds b

  calibrate_fine : (c : CalibrationValue) (o : Outcome) (e : Effect)
      → AllByRecursion (λ reading. reading ≤ℤ c.reading) readings → (s : Setting) → HasEffect s (Calibrate c) o b e → Q e
  calibrate_fine c o e order s h =
      subst Q (sym h) (unless_has Q (λ f. tt) (cause_of o.adding) (calibrate_effect c b)
      (if_has Q (is_backwards c (latest_calibration b)) (only (Refused fault.Store))
      (numbered (Calibrated c) (length (calibrations b) + 1)) tt (order, tt)))

  hold_fine : (s : Setting) (hold : HoldValue) (o : Outcome) (e : Effect) → HasEffect s (Hold hold) o b e → Q e
  hold_fine s hold o e h =
      subst Q (sym h)
      (unless_has Q (λ f. tt) (cause_of o.adding) (numbered (Held hold) (length (holds b) + 1)) (tt, tt))

  succeed_fine : (s : Setting) (next : InForce) (o : Outcome) (e : Effect) → HasEffect s (Succeed next) o b e → Q e
  succeed_fine s next o e h =
      subst Q (sym h) (unless_has Q (λ f. tt) (cause_of o.looking) _
      (go (is_latest (installed_by next.identity) (latest_identity b))))
    where
      go : (latest : Bool) → Q (succeed_effect o (installed_by next.identity) latest)
      go true = tt
      go false = unless_has Q (λ f. tt) (cause_of o.adding) (accepted (Installed (installed_by next.identity))) (tt, tt)

  entering_fine : (s : Setting) (c : Command) (o : Outcome) (e : Effect) → IsEntering c → IsInOrder c readings
      → HasEffect s c o b e → Q e
  entering_fine s (Calibrate c) o e entering order h = calibrate_fine c o e order s h
  entering_fine s (Hold hold) o e entering order h = hold_fine s hold o e h
  entering_fine s _ o e entering order h = absurd entering

  show_fine : (refused : Option Cause) (seen : Option DepositRow) → Q (show_effect refused seen)
  show_fine refused None = tt
  show_fine refused (Some d) = unless_has Q (λ f. tt) refused (only (Shown d.bytes)) tt

  token_fine : (refused : Option Cause) (token : Option (List ℕ)) (seen : Option DepositRow)
      → Q (token_effect refused token seen)
  token_fine refused token None = tt
  token_fine refused token (Some d) = unless_has Q (λ f. tt) refused (only (reply_or_nothing token)) tt

-- a stamp that is found to be allowed
reserved_fine : (file : PolicyValue) (readings : List ℤ) (b : History) (s : Setting) → s.file ≡ file → IsProper s
    → IsNameable s b → (account : Option AccountValue) (reading : ℤ) (octets : List ℕ) (o : Outcome)
    → reading ≤ℤ pos greatest_number → (f : Finding) → Finds s.file account reading octets o b f → (plan : StampPlan)
    → f ≡ Allowed plan
    → IsReservedAt file (reading ∷ readings) (next_reservation s (name_of account) plan octets b) b
reserved_fine file readings b s by proper nameable account reading octets o counted f found plan is =
    let allowed = subst (Finds s.file account reading octets o b) is found in record {
      s = s;
      by = by;
      proper = proper;
      nameable = nameable;
      account = account;
      reading = reading;
      among = (0, omega arith, refl);
      counted = counted;
      octets = octets;
      plan = plan;
      allowed = allowed.0;
      is = refl;
    }

step_fine : (file : PolicyValue) (readings : List ℤ) (b : History) (s : Setting) → s.file ≡ file → IsProper s
    → IsNameable s b → (c : Command) (o : Outcome) (e : Effect) → IsInOrder c readings → HasEffect s c o b e
    → AreFine file (option_to_list (reading_in c) ++ readings) e.adds b
step_fine file readings b s by proper nameable (Stamp account reading octets) o e counted (f, found, is) =
    let P = λ (x : Effect). AreFine file (reading ∷ readings) x.adds b in
    subst P (sym is) (stamp_has P for_reply s (name_of account) octets o b (λ rule. tt) (λ cause. tt) f
    (λ plan allowed left.
    let fine =
    reserved_fine file readings b s by proper nameable account reading octets o counted f found plan allowed in
    (λ cause. (fine, tt), λ token. (tt, (fine, tt)))))
step_fine file readings b s by proper nameable (Begin account reading octets) o e counted (f, found, is) =
    let P = λ (x : Effect). AreFine file (reading ∷ readings) x.adds b in
    subst P (sym is) (go f refl)
  where
    reserved : (plan : StampPlan) → f ≡ Allowed plan → (refused : Option Cause)
        → AreFine file (reading ∷ readings) (begin_effect s (name_of account) plan octets b refused).adds b
    reserved plan allowed (Some cause) = tt
    reserved plan allowed None =
        (reserved_fine file readings b s by proper nameable account reading octets o counted f found plan allowed, tt)

    go : (g : Finding) → f ≡ g
        → AreFine file (reading ∷ readings) (begin_found s (name_of account) octets o b g).adds b
    go (Allowed plan) same = reserved plan same (no_number o b)
    go _ same = tt
step_fine file readings b s by proper nameable (Deposit a reading reference bytes) o e counted h =
    let P = λ (x : Effect). AreFine file (reading ∷ readings) x.adds b in
    deposit_has P (λ f. tt) s a reading reference bytes o b (λ d is. tt)
    (λ unused spelled f found. stamp_has P (for_deposit a.name reference bytes) s a.name (octets_for s.file a bytes) o b
    (λ rule. tt) (λ cause. tt) f (λ plan allowed left.
    let fine =
    reserved_fine file readings b s by proper nameable (Some a) reading (octets_for s.file a bytes) o counted f found plan
    allowed in
    (λ cause. (fine, tt), λ token. (tt, (fine, tt))))) _ e h
step_fine file readings b s by proper nameable (Finish p signature) o e order h =
    let P = λ (x : Effect). AreFine file readings x.adds b in
    subst P (sym h) (unless_has P (λ f. tt) (no_seal o) (finish_effect p signature) (tt, tt))
step_fine file readings b s by proper nameable (Abandon p) o e order h =
    let P = λ (x : Effect). AreFine file readings x.adds b in subst P (sym h) tt
step_fine file readings b s by proper nameable (Show a n) o e order h =
    let P = λ (x : Effect). AreFine file readings x.adds b in
    subst P (sym h) (unless_has P (λ f. tt) (cause_of o.searching) _
    (show_fine file readings b (no_sight o) (seen_by (viewer_in s.file a.name) n b)))
step_fine file readings b s by proper nameable (Token a n) o e order h =
    let P = λ (x : Effect). AreFine file readings x.adds b in
    subst P (sym h) (unless_has P (λ f. tt) (cause_of o.searching) _
    (token_fine file readings b (no_sight o) (token_of n b) (seen_by (viewer_in s.file a.name) n b)))
step_fine file readings b s by proper nameable (ListAll a) o e order h =
    let P = λ (x : Effect). AreFine file readings x.adds b in
    subst P (sym h) (unless_has P (λ f. tt) (cause_of o.looking)
    (only (Listed (listed (viewer_in s.file a.name) b))) tt)
step_fine file readings b s by proper nameable (Grant a n reader) o e order h =
    let P = λ (x : Effect). AreFine file readings x.adds b in
    subst P (sym h) (unless_has P (λ f. tt) (cause_of o.searching) _
    (right_has P (λ f. tt) s.file a.name reader o (Granted n reader) (seen_by (viewer_in s.file a.name) n b)
    (λ d seen owns. (tt, tt))))
step_fine file readings b s by proper nameable (Revoke a n reader) o e order h =
    let P = λ (x : Effect). AreFine file readings x.adds b in
    subst P (sym h) (unless_has P (λ f. tt) (cause_of o.searching) _
    (right_has P (λ f. tt) s.file a.name reader o (Revoked n reader) (seen_by (viewer_in s.file a.name) n b)
    (λ d seen owns. (tt, tt))))
step_fine file readings b s by proper nameable (Calibrate c) o e order h =
    calibrate_fine file readings b c o e order s h
step_fine file readings b s by proper nameable (Hold hold) o e order h = hold_fine file readings b s hold o e h
step_fine file readings b s by proper nameable (Succeed next) o e order h = succeed_fine file readings b s next o e h

-- ---- journeys

-- by what a desk is opened
abbrev IsOpenBy : Type 0
IsOpenBy = (b : History) (s : Setting) (w : List Told) → Journey b (Some s) w → IsProper s × IsNameable s b

file_kept : (file : PolicyValue) (b : History) (x : Option Setting) (w : List Told) (j : Journey b x w)
    → KeepsTo file j → IfSome x (λ s. s.file ≡ file)
file_kept file b x w begins keeps = tt
file_kept file b x w (opens {b = b0} {x = x0} {w = w0} s o e proper h done j) keeps = keeps.0
file_kept file b x w (opens_older {b = b0} {x = x0} {w = w0} s proper none unnamed j) keeps = keeps.0
file_kept file b x w (shuts {b = b0} {x = x0} {w = w0} s o e k proper h j) keeps = tt
file_kept file b x w (rests {b = b0} {x = x0} {w = w0} j) keeps = tt
file_kept file b x w (enters {b = b0} {w = w0} s c o e entering met h j) keeps = tt
file_kept file b x w (breaks {b = b0} {w = w0} s c o e k entering met h j) keeps = tt
file_kept file b x w (goes {b = b0} {w = w0} s c o e met h j) keeps = file_kept file b0 (Some s) w0 j keeps.1
file_kept file b x w (stops {b = b0} {w = w0} s c o e k met h j) keeps = tt
file_kept file b x w (continues {b = b0} {w = w0} floor above stated j) keeps = tt

none_in : (newer older : History) (r : ReservationValue) → [] ≡ newer ++ Reserved r ∷ older → ⊥
none_in [] older r is = cc
none_in (x ∷ newer) older r is = cc

-- nothing is reserved since the beginning yet
nothing_since : (file : PolicyValue) (readings : List ℤ) (b : History) → AreReserved file readings b b
nothing_since file readings b newer older r is since =
    let long = ap length is ∙ length-append newer (Reserved r ∷ older) in absurd (omega (arith, long, since))

pub reserved_along : IsOpenBy → (file : PolicyValue) (b : History) (x : Option Setting) (w : List Told)
    (j : Journey b x w) → KeepsTo file j → AreReserved file (readings_of j) (begun_with j) b
reserved_along opened file b x w begins keeps = nothing_since file [] []
reserved_along opened file b x w (opens {b = b0} {x = x0} {w = w0} s o e proper h done j) keeps =
    all_more file (readings_of j) (begun_with j) e.adds b0 (succeed_fine file (readings_of j) b0 s s.in_force o e h)
    (reserved_along opened file b0 x0 w0 j keeps.1)
reserved_along opened file b x w (opens_older {b = b0} {x = x0} {w = w0} s proper none unnamed j) keeps =
    reserved_along opened file b0 x0 w0 j keeps.1
reserved_along opened file b x w (shuts {b = b0} {x = x0} {w = w0} s o e k proper h j) keeps =
    all_more file (readings_of j) (begun_with j) (drop k e.adds) b0
    (cut_fine file (readings_of j) k e.adds b0 (succeed_fine file (readings_of j) b0 s s.in_force o e h))
    (reserved_along opened file b0 x0 w0 j keeps)
reserved_along opened file b x w (rests {b = b0} {x = x0} {w = w0} j) keeps =
    reserved_along opened file b0 x0 w0 j keeps
reserved_along opened file b x w (enters {b = b0} {w = w0} s c o e entering met h j) keeps =
    all_more file (readings_of j) (begun_with j) e.adds b0
    (entering_fine file (readings_of j) b0 s c o e entering keeps.0 h) (reserved_along opened file b0 None w0 j keeps.1)
reserved_along opened file b x w (breaks {b = b0} {w = w0} s c o e k entering met h j) keeps =
    all_more file (readings_of j) (begun_with j) (drop k e.adds) b0
    (cut_fine file (readings_of j) k e.adds b0 (entering_fine file (readings_of j) b0 s c o e entering keeps.0 h))
    (reserved_along opened file b0 None w0 j keeps.1)
reserved_along opened file b x w (goes {b = b0} {w = w0} s c o e met h j) keeps =
    let is = opened b0 s w0 j in
    let more = option_to_list (reading_in c) ++ readings_of j in
    all_more file more (begun_with j) e.adds b0
    (step_fine file (readings_of j) b0 s (file_kept file b0 (Some s) w0 j keeps.1) is.0 is.1 c o e keeps.0 h)
    (reads_more file (reading_in c) (readings_of j) (begun_with j) b0
    (reserved_along opened file b0 (Some s) w0 j keeps.1))
reserved_along opened file b x w (stops {b = b0} {w = w0} s c o e k met h j) keeps =
    let is = opened b0 s w0 j in
    let more = option_to_list (reading_in c) ++ readings_of j in
    all_more file more (begun_with j) (drop k e.adds) b0 (cut_fine file more k e.adds b0
    (step_fine file (readings_of j) b0 s (file_kept file b0 (Some s) w0 j keeps.1) is.0 is.1 c o e keeps.0 h))
    (reads_more file (reading_in c) (readings_of j) (begun_with j) b0
    (reserved_along opened file b0 (Some s) w0 j keeps.1))
reserved_along opened file b x w (continues {b = b0} {w = w0} floor above stated j) keeps = nothing_since file [] b

-- ---- stamps

given_for : Laws → (file : PolicyValue) → IsSoundFile file → (readings : List ℤ) (b newer older : History)
    (r : ReservationValue) → b ≡ newer ++ Reserved r ∷ older → IsSound b → (at : IsReservedAt file readings r older)
    → AllByRecursion (λ c. at.reading ≤ℤ c.reading) (calibrations newer) → (hs : List HoldValue)
    → ((now : ℕ) → is_held_by (reverse (holds older)) (pos now) ≡ false → is_held_by hs (pos now) ≡ false)
    → IsGivenByRules (record (evidence_in file b) { holds = hs }) (before_of (rows_before b older) (row_in b r))
    (row_in b r)
given_for laws file file_sound readings b newer older r is sound at later hs free =
    let with : ReservationValue → History = λ x. newer ++ Reserved x ∷ older in
    let Given : PolicyValue → ReservationValue → History → Type 0 =
    λ f x c. IsGivenByRules (record (evidence_in f c) { holds = hs }) (before_of (rows_before c older) (row_in c x))
    (row_in c x) in
    let next = next_reservation at.s (name_of at.account) at.plan at.octets older in
    let given : Given at.s.file next (with next) =
    given_by laws at.s at.reading at.octets at.account at.plan newer older (subst IsSoundFile (sym at.by) file_sound)
    (record {
      proper = at.proper;
      nameable = at.nameable;
      allowed = at.allowed;
      counted = at.counted;
      later = later;
      sound = subst (λ x. IsSound (with x)) at.is (subst IsSound is sound);
    }) hs free in
    subst (Given file r) (sym is) (subst (λ f. Given f r (with r)) at.by
    (subst (λ x. Given at.s.file x (with x)) (sym at.is) given))

pub journeys_given : Laws → IsOpenBy
    → ((b : History) (x : Option Setting) (w : List Told) → Journey b x w → HasProperties b w) → (file : PolicyValue)
    (b : History) (x : Option Setting) (w : List Told) (j : Journey b x w) → IsSoundFile file → KeepsTo file j
    → AreGivenByRules file (begun_with j) b
journeys_given laws opened has file b x w j file_sound keeps =
    let sound = (has b x w j).sound.sound in
    let are = reserved_along opened file b x w j keeps in
    record {
      given = λ newer older r is since.
          let at = are newer older r is since in
          given_for laws file file_sound (readings_of j) b newer older r is sound at.0 at.1 [] (λ now free. refl);
      unheld_since = λ newer older r is since none.
          let at = are newer older r is since in
          let same : holds b ≡ holds older =
          ap holds is ∙ filter_map-append hold_in newer (Reserved r ∷ older) ∙ ap (λ hs. hs ++ holds older) none in
          given_for laws file file_sound (readings_of j) b newer older r is sound at.0 at.1 (reverse (holds b))
          (λ now free. ap (λ hs. is_held_by (reverse hs) (pos now)) same ∙ free);
    }
