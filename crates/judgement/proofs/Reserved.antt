-- What the machine reserves is given by the rules.
use Rattle.std.proofs.Common.{◌≡◌, ℕ, zero, suc, ◌<◌, ◌≤◌, ◌+◌, ◌-◌, ◌&&◌, ◌||◌, min, ℤ, pos, ◌≤ℤ◌, Bool, true, false}
use Rattle.std.proofs.Common.{not, ◌^◌, List, [], ◌∷◌, ◌++◌, map, reverse, count_by, length, Contains, Option, Some}
use Rattle.std.proofs.Common.{None, option_map, refl, sym, ap, ap₂, ◌∙◌, subst, inl, inr, arith, if◌then◌else◌}
use Rattle.std.proofs.lemmas.List.Elements.{All-contains, All-from_recursion, filter_map-append}
use Rattle.std.proofs.lemmas.List.Sorted.{IsPermutation-reverse, list_any-IsPermutation}
use Rattle.std.proofs.{Common.append_assoc, Common.find, Math.Nat.div-mul-le_self, lemmas.List.Sums.sum_by-append}
use Rattle.std.proofs.{lemmas.Bool.eq-eqb, lemmas.Bool.le-leb, lemmas.List.reverse-append, lemmas.List.reverse-reverse}
use Rattle.std.specs.Cmp.Lexicographic.{nat_list_eq_equiv}
use Rattle.std.specs.{Prelude.IfSome, List.AllByRecursion, List.list_any, Str.bytes_eq}
use Rattle.der.specs.{Node.Node, Node.IsLawful, ObjectIdentifier.IsOid}
use Rattle.gentime.specs.GenTime.{day_of, last_moment}
use Rattle.policy.specs.{LookUp.account_named, Record.AccountValue, Sound.IsSound as IsSoundFile, Sound.are_apart}
use Rattle.tsp.specs.Tst.{IsTst, IsTsaName, SpellsTst, answer, tst_info}
use Rattle.tsp.specs.declared.rule.Rule.TheVariants.{Spelling, Account, Policy}
use Rattle.tsp.specs.{Request.RequestValue, Request.Spells, declared.rule.Rule.Rule}
use Rattle.cms.specs.Certificate.{IsSubject, IsSubjectName}
use Rattle.book.specs.History.{Reserved, History, ReservationValue, CalibrationValue, HoldValue, InstalledValue}
use Rattle.book.specs.History.{first_of, calibrations, holds, reservations, latest_calibration, last_gen_time}
use Rattle.book.specs.History.{count_of_day, reservation_at, calibration_in}
use Rattle.book.specs.Identities.{identities, identity_at_reservation, identity_before, installed_as, latest_identity}
use Rattle.book.specs.{Rows.InstalledRow, Rows.StampRow, Sound.IsSound, Sound.greatest_number}
use Rattle.decide.specs.{Clock.now_at, Clock.gen_time, Clock.IsGood, Rules.Holds, Rules.IsKnown, Verdict.IsVerdict}
use Rattle.decide.specs.{Verdict.Allowed, declared.facts.Calibration.Calibration, declared.facts.ClockFacts.ClockFacts}
use Rattle.decide.specs.{declared.facts.Facts.Facts}
use Rattle.desk.specs.Facts.{clock_of, count_in, facts_of, gen_time_of, gen_time_in, is_held_at, now_in}
use Rattle.desk.specs.Succession.{IsNameable, installed_by, subject_of, tsa_of}
use Rattle.desk.specs.{Calls.moment_or_last, Command.Setting, Effects.next_reservation, Effects.name_of}
use Rattle.desk.specs.{Findings.StampPlan, Findings.IsAllowed, MachineRuns.IsProper}
use Rattle.desk.proofs.journeys.Views.{reservation_stays, identity_stays}
use Rattle.desk.proofs.{calls.Clocks.last_within, journeys.Given.just_found}
use Rattle.judgement.specs.Journeys.{row_in, rows_before}
use Rattle.judgement.specs.Readings.{evidence_in, IsReadUnder, IsOfSome, IsClockUnder, calibration_of, clock_at}
use Rattle.judgement.specs.{Given.IsGivenByRules, Given.Names, Past.before_of, Readings.is_held_by}
use Rattle.judgement.specs.Past as past

-- what is asked of the crates below
pub record Laws : Type 0 where
  pub answers : (octets : List ℕ) (r : RequestValue) → Spells octets r → length octets ≤ 65536
      → (policy : List ℕ) (serial gen_time accuracy : ℕ) (ordering : Bool) (tsa : Option Node) → IsOid policy
      → 1 ≤ serial → serial < 2 ^ 63 → gen_time ≤ last_moment → 1 ≤ accuracy → accuracy ≤ 1000000
      → IfSome tsa IsTsaName → IsTst (answer r policy serial gen_time accuracy ordering tsa)
      × IsLawful (tst_info (answer r policy serial gen_time accuracy ordering tsa))
  pub tells : (b : History) (serial : ℕ) (r : ReservationValue) → IsSound b → reservation_at serial b ≡ Some r
      → option_map installed_as (identity_before serial (identities b)) ≡ identity_at_reservation serial b

-- ---- lists

first_more : {X : Type 0} (Q : X → Type 0) (xs : List X) (x : X) → IfSome (first_of xs) Q → Q x
    → IfSome (first_of (xs ++ x ∷ [])) Q
first_more Q [] x h k = k
first_more Q (y ∷ xs) x h k = h

-- the oldest of those of which it is all said
first_turned : {X : Type 0} (Q : X → Type 0) (xs : List X) → AllByRecursion Q xs → IfSome (first_of (reverse xs)) Q
first_turned Q [] all = tt
first_turned Q (x ∷ xs) all =
    subst (λ ys. IfSome (first_of ys) Q) (sym (reverse-append (x ∷ []) xs))
    (first_more Q (reverse xs) x (first_turned Q xs all.1) all.0)

some_between : (P : CalibrationValue → Option CalibrationValue → Type 0) (xs : List CalibrationValue)
    (c : CalibrationValue) (ys : List CalibrationValue) → P c (first_of ys) → IsOfSome P (xs ++ c ∷ ys)
some_between P [] c ys h = inl h
some_between P (x ∷ xs) c ys h = inr (some_between P xs c ys h)

-- one among others, the newest first, once they are turned
turned_at : (newer : List CalibrationValue) (c : CalibrationValue) (older : List CalibrationValue)
    → reverse (newer ++ c ∷ older) ≡ reverse older ++ c ∷ reverse newer
turned_at newer c older =
    reverse-append newer (c ∷ older) ∙ ap (λ xs. xs ++ reverse newer) (reverse-append (c ∷ []) older)
    ∙ append_assoc (reverse older) (c ∷ []) (reverse newer)

count_turned : {X : Type 0} (p : X → Bool) (xs : List X) → count_by p (reverse xs) ≡ count_by p xs
count_turned p [] = refl
count_turned p (x ∷ xs) =
    let last : count_by p (reverse xs ++ x ∷ []) ≡ count_by p (reverse xs) + count_by p (x ∷ []) =
    sum_by-append _ (reverse xs) (x ∷ []) in
    let first : count_by p (x ∷ xs) ≡ count_by p (x ∷ []) + count_by p xs = sum_by-append _ (x ∷ []) xs in
    let rest = count_turned p xs in
    ap (count_by p) (reverse-append (x ∷ []) xs) ∙ omega (arith, last, first, rest)

count_map : {X Y : Type 0} (p : Y → Bool) (f : X → Y) (xs : List X) → count_by p (map f xs) ≡ count_by (λ x. p (f x)) xs
count_map p f [] = refl
count_map {X} {Y} p f (x ∷ xs) =
    let q : X → Bool = λ x. p (f x) in
    let left : count_by p (map f (x ∷ xs)) ≡ count_by p (f x ∷ []) + count_by p (map f xs) =
    sum_by-append _ (f x ∷ []) (map f xs) in
    let right : count_by q (x ∷ xs) ≡ count_by q (x ∷ []) + count_by q xs = sum_by-append _ (x ∷ []) xs in
    let same : count_by p (f x ∷ []) ≡ count_by q (x ∷ []) = refl in
    let rest : count_by p (map f xs) ≡ count_by q xs = count_map p f xs in
    left ∙ ap₂ (λ m n. m + n) same rest ∙ sym right

-- ---- the rows before

last_row : (b : History) (rs : List ReservationValue) → past.last_gen_time (reverse (map (row_in b) rs))
    ≡ option_map moment_or_last (option_map (λ r. r.gen_time) (first_of rs))
last_row b rs =
    ap (λ rows. option_map (λ (row : StampRow). min row.gen_time last_moment) (first_of rows))
    (reverse-reverse (map (row_in b) rs)) ∙ go rs
  where
    go : (rs : List ReservationValue)
        → option_map (λ (row : StampRow). min row.gen_time last_moment) (first_of (map (row_in b) rs))
        ≡ option_map moment_or_last (option_map (λ r. r.gen_time) (first_of rs))
    go [] = refl
    go (r ∷ rs) = refl

last_is : (b older : History) → IsSound older → past.last_gen_time (rows_before b older) ≡ last_gen_time older
last_is b older sound = last_row b (reservations older) ∙ last_within older sound

count_is : (b older : History) (account : List ℕ) (day : ℕ)
    → past.count_of account day (rows_before b older) ≡ count_of_day account day older
count_is b older account day =
    count_turned _ (map (row_in b) (reservations older)) ∙ count_map _ (row_in b) (reservations older)

-- ---- the account

both_left : (x y : Bool) → (x && y) ≡ true → x ≡ true
both_left true y e = refl
both_left false y e = e

both_right : (x y : Bool) → (x && y) ≡ true → y ≡ true
both_right true y e = e
both_right false y e = cc

neither_left : (x y : Bool) → (x || y) ≡ false → x ≡ false
neither_left true y e = e
neither_left false y e = refl

neither_right : (x y : Bool) → (x || y) ≡ false → y ≡ false
neither_right true y e = cc
neither_right false y e = e

not_true : (x : Bool) → not x ≡ true → x ≡ false
not_true true e = sym e
not_true false e = refl

bytes_same : (xs : List ℕ) → bytes_eq xs xs ≡ true
bytes_same xs = nat_list_eq_equiv.refl xs

apart_here : (name : List ℕ) (a : AccountValue) (xs : List AccountValue)
    → list_any (bytes_eq name) (map (λ (x : AccountValue). x.name) xs) ≡ false → Contains xs a
    → bytes_eq name a.name ≡ false
apart_here name a [] none m = absurd (let below = m.1 in omega (arith, below))
apart_here name a (x ∷ xs) none (zero, below, is) =
    let same : x ≡ a = is in
    subst (λ (y : AccountValue). bytes_eq name y.name ≡ false) same (neither_left _ _ none)
apart_here name a (x ∷ xs) none (suc n, below, is) =
    apart_here name a xs (neither_right _ _ none) (n, omega (arith, below), is)

-- names that differ find their accounts
account_found : (xs : List AccountValue) (a : AccountValue)
    → are_apart bytes_eq (map (λ (x : AccountValue). x.name) xs) ≡ true → Contains xs a
    → find (λ x. bytes_eq x.name a.name) xs ≡ Some a
account_found [] a apart m = absurd (let below = m.1 in omega (arith, below))
account_found (x ∷ xs) a apart (zero, below, is) =
    let same : x ≡ a = is in
    subst (λ (y : AccountValue). find (λ z. bytes_eq z.name y.name) (x ∷ xs) ≡ Some y) same
    (rw (bytes_same x.name) refl)
account_found (x ∷ xs) a apart (suc n, below, is) =
    let m : Contains xs a = (n, omega (arith, below), is) in
    rw (apart_here x.name a xs (not_true _ (both_left _ _ apart)) m) (account_found xs a (both_right _ _ apart) m)

-- ---- the identity

at_once : (newer older : History) (r : ReservationValue) → IsSound (newer ++ Reserved r ∷ older)
    → (reservation_at r.serial (newer ++ Reserved r ∷ older) ≡ Some r)
    × (identity_at_reservation r.serial (newer ++ Reserved r ∷ older) ≡ latest_identity older)
at_once [] older r sound = (rw (eq-eqb r.serial r.serial refl) refl, just_found r older)
at_once (entry ∷ newer) older r sound =
    let before = at_once newer older r sound.1 in
    let b = newer ++ Reserved r ∷ older in (
      reservation_stays entry b sound.0 r.serial r before.0,
      identity_stays entry b sound.0 r.serial r before.0 ∙ before.1,
    )

-- whom the TSTInfo names is the subject of the certificate in force
named_by : (row : Option InstalledRow) (i : InstalledValue) (name : Node) → option_map installed_as row ≡ Some i
    → IsSubject i.certificate name → Names true row (Some name)
named_by None i name is subject = cc
named_by (Some row) i name is subject =
    let one : Some (installed_as row) ≡ Some i = is in
    let same : installed_as row ≡ i = cc in
    let certificate : row.certificate ≡ i.certificate = ap (λ (v : InstalledValue). v.certificate) same in
    (name, refl, rw certificate subject)

names_it : (s : Setting) → IsProper s → (older : History) → IsNameable s older → (row : Option InstalledRow)
    → option_map installed_as row ≡ latest_identity older → (wanted : Bool) → s.file.counter.tsa_name ≡ wanted
    → Names wanted row (if wanted then Some (subject_of s.in_force.identity) else None)
names_it s proper older nameable row is true wants =
    named_by row (installed_by s.in_force.identity) (subject_of s.in_force.identity) (is ∙ nameable wants)
    proper.identity.subject
names_it s proper older nameable row is false wants = refl

-- a TSTInfo has room for the name of an identity
tsa_fits : (name : Node) → IsSubjectName name → (wanted : Bool) → IfSome (if wanted then Some name else None) IsTsaName
tsa_fits name is true = let short = is.short in record {
  name = record { components = is.components; sequence = is.sequence };
  formed = is.formed;
  depth = is.shallow;
  short = omega arith;
}
tsa_fits name is false = tt

-- ---- the clock

abbrev clock_made : ℤ → Option Calibration → Bool → Option ℕ → ClockFacts
clock_made reading calibration held last =
    record { reading = reading; calibration = calibration; held = held; last_gen_time = last }

-- the latest calibration of a history, and those before it
record HasLatest (b : History) (calibration : Calibration) : Type 0 where
  latest : CalibrationValue
  older : List CalibrationValue
  are : calibrations b ≡ latest ∷ older
  same : calibration_of latest ≡ calibration

latest_found : (b : History) (calibration : Calibration) → (clock_of (pos 0) b).calibration ≡ Some calibration
    → HasLatest b calibration
latest_found b calibration is = go (calibrations b) refl is
  where
    go : (cs : List CalibrationValue) → calibrations b ≡ cs → option_map calibration_of (first_of cs) ≡ Some calibration
        → HasLatest b calibration
    go [] are is = cc
    go (c ∷ cs) are is =
        let one : Some (calibration_of c) ≡ Some calibration = is in
        record { latest = c; older = cs; are = are; same = cc }

-- a hold that an allowed moment isn't in
unheld_before : (now : ℕ) (b : History) → now ≤ last_moment → is_held_at (Some (pos now)) b ≡ false
    → is_held_by (reverse (holds b)) (pos now) ≡ false
unheld_before now b within free =
    sym (list_any-IsPermutation _ (holds b) (reverse (holds b)) (IsPermutation-reverse (holds b)))
    ∙ rw (le-leb now last_moment within) at free

-- ---- what is reserved

-- an allowed stamp is reserved next, and this comes later
pub record IsReservedNext (s : Setting) (reading : ℤ) (octets : List ℕ) (account : Option AccountValue)
    (plan : StampPlan) (newer older : History) : Type 0 where
  pub proper : IsProper s
  pub nameable : IsNameable s older
  pub allowed : IsAllowed s.file account reading octets older plan
  pub counted : reading ≤ℤ pos greatest_number
  pub later : AllByRecursion (λ c. reading ≤ℤ c.reading) (calibrations newer)
  pub sound : IsSound (newer ++ Reserved (next_reservation s (name_of account) plan octets older) ∷ older)

module _ (laws : Laws) (s : Setting) (reading : ℤ) (octets : List ℕ) (account : Option AccountValue) (plan : StampPlan)
    (newer older : History) (file_sound : IsSoundFile s.file)
    (is : IsReservedNext s reading octets account plan newer older) where
  abbrev r : ReservationValue
  r = next_reservation s (name_of account) plan octets older

  abbrev b : History
  b = newer ++ Reserved r ∷ older

  abbrev row : StampRow
  row = row_in b r

  abbrev rows : List StampRow
  rows = rows_before b older

  abbrev facts : Facts
  facts = facts_of s.file account reading older

  older_sound : IsSound older
  older_sound = go newer is.sound
    where
      go : (newer : History) → IsSound (newer ++ Reserved r ∷ older) → IsSound older
      go [] sound = sound.1
      go (entry ∷ newer) sound = go newer sound.1

  reserved_fits : (1 ≤ r.serial) × (r.serial ≤ greatest_number)
  reserved_fits = go newer is.sound
    where
      go : (newer : History) → IsSound (newer ++ Reserved r ∷ older) → (1 ≤ r.serial) × (r.serial ≤ greatest_number)
      go [] sound = let rises = sound.0.rises in (omega (arith, rises), sound.0.within)
      go (entry ∷ newer) sound = go newer sound.1

  account_is : account_named s.file row.account ≡ account
  account_is =
      let known : IsKnown s.file account = is.allowed.holds Account plan.request is.allowed.spelled in
      let a = known.0 in
      subst (λ o. account_named s.file (name_of o) ≡ o) (sym known.1)
      (account_found s.file.accounts a file_sound.accounts.names known.2)

  rules_hold : (rule : Rule) → Holds s.file account plan.request facts rule
  rules_hold Spelling = tt
  rules_hold rule = is.allowed.holds rule plan.request is.allowed.spelled

  abbrev good : IsGood s.file.counter (clock_of reading older)
  good = is.allowed.good.0

  latest : HasLatest older good.calibration
  latest = latest_found older good.calibration good.calibrated

  -- the moment that the reading stands for
  now_is : now_at reading (calibration_of latest.latest) ≡ pos good.now
  now_is = ap (now_at reading) latest.same ∙ good.stated

  calibrations_are : reverse (calibrations b) ≡ reverse latest.older ++ latest.latest ∷ reverse (calibrations newer)
  calibrations_are =
      ap reverse (filter_map-append calibration_in newer (Reserved r ∷ older)
      ∙ ap (λ cs. calibrations newer ++ cs) latest.are)
      ∙ turned_at (calibrations newer) latest.latest latest.older

  read_under : IsReadUnder s.file.counter row.gen_time latest.latest (first_of (reverse (calibrations newer))) reading
  read_under = record {
    since = subst (λ (c : Calibration). c.reading ≤ℤ reading) (sym latest.same) good.after;
    until = first_turned _ (calibrations newer) is.later;
    counted = is.counted;
    now = good.now;
    is_now = now_is;
    rounded = sym is.allowed.good.1;
  }

  now_in_is : now_in reading (latest_calibration older) ≡ Some (pos good.now)
  now_in_is = ap (λ cs. now_in reading (first_of cs)) latest.are ∙ ap Some now_is

  gen_time_is : gen_time_in s.file reading older ≡ plan.gen_time
  gen_time_is = ap (gen_time_of s.file) now_in_is ∙ sym is.allowed.good.1

  count_found : facts.count ≡ past.count_of row.account (day_of row.gen_time) rows
  count_found =
      let known : IsKnown s.file account = is.allowed.holds Account plan.request is.allowed.spelled in
      subst (λ o. count_in s.file o reading older ≡ count_of_day (name_of o) (day_of plan.gen_time) older) (sym known.1)
      (ap (λ n. count_of_day known.0.name (day_of n) older) gen_time_is)
      ∙ sym (count_is b older row.account (day_of row.gen_time))

  identity_is : option_map installed_as (identity_before r.serial (identities b)) ≡ latest_identity older
  identity_is =
      let at = at_once newer older r is.sound in laws.tells b r.serial r is.sound at.0 ∙ at.1

  tst_spelled : SpellsTst row.tst (answer plan.request plan.policy row.serial plan.gen_time s.file.counter.accuracy_us
      s.file.counter.ordering (tsa_of s))
  tst_spelled =
      let accepted = is.allowed.holds Policy plan.request is.allowed.spelled in
      let p = accepted.2.0 in
      let asked = accepted.2.1 in
      let all = All-from_recursion (λ q. IsOid q.oid) s.file.policies is.proper.policies in
      let oid : IsOid p.oid = All-contains (λ q. IsOid q.oid) s.file.policies p all asked.0 in
      let one : Some plan.policy ≡ Some p.oid = sym is.allowed.policy ∙ asked.1 in
      let same : plan.policy ≡ p.oid = cc in
      let spelled = is.allowed.holds Spelling in
      let fits = reserved_fits in
      let low = div-mul-le_self good.now (10 ^ (6 - s.file.counter.fraction_digits)) in
      let high = good.statable in
      let at = is.allowed.good.1 in
      let text = laws.answers octets plan.request is.allowed.spelled spelled.1 plan.policy r.serial plan.gen_time
      s.file.counter.accuracy_us s.file.counter.ordering (tsa_of s) (rw same oid) fits.0 (omega (arith, fits.1))
      (omega (arith, low, high, at)) is.proper.some_accuracy is.proper.most_accuracy
      (tsa_fits (subject_of s.in_force.identity) is.proper.identity.name s.file.counter.tsa_name) in
      record { ranges = text.0; lawful = text.1; spelled = refl }

  unheld_then : is_held_by (reverse (holds older)) (pos good.now) ≡ false
  unheld_then =
      unheld_before good.now older good.statable (ap (λ n. is_held_at n older) (sym now_in_is) ∙ good.free)

  -- by holds in which the moment isn't
  given_with : (hs : List HoldValue) → is_held_by hs (pos good.now) ≡ false
      → IsGivenByRules (record (evidence_in s.file b) { holds = hs }) (before_of rows row) row
  given_with hs free = record {
    request = plan.request;
    asked = is.allowed.spelled;
    short = (is.allowed.holds Spelling).1;
    facts = facts;
    possible = record {
      clock = inl (subst (IsOfSome Under) (sym calibrations_are) (some_between Under (reverse latest.older)
          latest.latest (reverse (calibrations newer)) (reading, read_under, clock_is)));
      count = count_found;
    };
    plan = record { policy = plan.policy; gen_time = plan.gen_time; certificate = plan.request.cert_req };
    allowed = subst (λ o. IsVerdict s.file o plan.request facts
        (Allowed (record { policy = plan.policy; gen_time = plan.gen_time; certificate = plan.request.cert_req })))
        (sym account_is)
        (rules_hold, record { policy = is.allowed.policy; good = is.allowed.good; certificate = refl });
    row = record {
      gen_time = refl;
      day = refl;
      policy = refl;
      algorithm = refl;
      digest = refl;
      tsa = tsa_of s;
      named = names_it s is.proper older is.nameable (identity_before r.serial (identities b)) identity_is
          s.file.counter.tsa_name refl;
      tst = tst_spelled;
    };
  }
    where
      Under : CalibrationValue → Option CalibrationValue → Type 0
      Under c next =
          IsClockUnder (record (evidence_in s.file b) { holds = hs }) (past.last_gen_time rows) row.gen_time
          facts.clock c next

      clock_is : facts.clock ≡ clock_at hs (past.last_gen_time rows) latest.latest reading
      clock_is =
          ap (λ c. clock_made reading c (clock_of reading older).held (last_gen_time older))
          (ap (λ cs. option_map calibration_of (first_of cs)) latest.are)
          ∙ ap (λ h. clock_made reading (Some (calibration_of latest.latest)) h (last_gen_time older))
          (good.free ∙ sym (ap (is_held_by hs) now_is ∙ free))
          ∙ ap (clock_made reading (Some (calibration_of latest.latest))
          (is_held_by hs (now_at reading (calibration_of latest.latest)))) (sym (last_is b older older_sound))

  -- by holds in which no moment is that wasn't held when it was reserved
  pub given_by : (hs : List HoldValue)
      → ((now : ℕ) → is_held_by (reverse (holds older)) (pos now) ≡ false → is_held_by hs (pos now) ≡ false)
      → IsGivenByRules (record (evidence_in s.file b) { holds = hs }) (before_of rows row) row
  given_by hs free = given_with hs (free good.now unheld_then)
