-- Readings and the clock: the first reading is the best.
use Rattle.std.proofs.Common.{◌≡◌, ℕ, suc, ◌<◌, ◌≤◌, ◌+◌, ◌-◌, ◌*◌, ◌/◌, ◌%◌, ◌^◌, ℤ, pos, negsuc, List, [], ◌∷◌}
use Rattle.std.proofs.Common.{drop, map, Option, Some, None, Bool, true, false, ◌&&◌, refl, sym, ap, ◌∙◌, subst, inl}
use Rattle.std.proofs.Common.{inr}
use Rattle.std.proofs.Math.Nat.{div-mul-le_self, div-eq_of_lt-le, mul-le-mul_right, one-le-pow, mul-div_cancel}
use Rattle.std.proofs.{Common.find, Common.arith, lemmas.Bool.or_right, lemmas.Bool.true≢false, lemmas.Int.ints}
use Rattle.std.proofs.{lemmas.Int.by_lt_z, lemmas.Nat.le-div, lemmas.Option.same_Some, lemmas.Option.none-some}
use Rattle.std.specs.List.{list_any}
use Rattle.std.specs.Prelude.{◌≤ℤ◌, ◌<ℤ◌, ◌+ℤ◌, ◌-ℤ◌, IfSome, int_le, int_lt, is_some, length}
use Rattle.policy.specs.Record.{CounterValue}
use Rattle.book.specs.History.{CalibrationValue, HoldValue, first_of}
use Rattle.book.specs.{Sound.greatest_number, Values.hold_view, declared.values.Hold.Hold}
use Rattle.decide.specs.Clock.{now_at, at_least_zero, elapsed, deviation, step, gen_time, Follows, IsGood}
use Rattle.decide.specs.{declared.facts.Calibration.Calibration, declared.facts.ClockFacts.ClockFacts}
use Rattle.judgement.specs.Readings.{EvidenceValue, IsReadUnder, IsOfSome, IsClockUnder, calibration_of, is_held_by}
use Rattle.judgement.specs.auxiliary.Search.{IsFirstFree, IsFirstReading, IsFreeReading, IsGoodClock, IsGoodClockUnder}
use Rattle.judgement.specs.{Readings.clock_at, Readings.uncalibrated, auxiliary.Search.IsGoodUnder}

-- ---- rounding

pub step_positive : (k : ℕ) → 0 < 10 ^ k
step_positive k = omega (arith, one-le-pow k 10 (omega arith))

-- a number is less than one step above what it is rounded down to
pub rounded_near : (n s g : ℕ) → 0 < s → n / s * s ≡ g → (g ≤ n) × (n < g + s)
rounded_near n s g h e =
    let whole : s * (n / s) + n % s ≡ n = omega arith in
    let small : n % s < s = omega arith in
    let turned : n / s * s ≡ s * (n / s) = omega arith in
    (omega (arith, whole, small, turned, e), omega (arith, whole, small, turned, e))

-- and that is a multiple
pub rounded_whole : (n s g : ℕ) → 0 < s → n / s * s ≡ g → g / s * s ≡ g
rounded_whole n s g h e = ap (λ x. x / s * s) (sym e) ∙ (ap (λ q. q * s) (mul-div_cancel (n / s) h) ∙ e)

whole_rest : (g s : ℕ) → 0 < s → g / s * s ≡ g → g % s ≡ 0
whole_rest g s h e =
    let whole : s * (g / s) + g % s ≡ g = omega arith in
    let turned : g / s * s ≡ s * (g / s) = omega arith in
    omega (arith, whole, turned, e)

-- a number that is less than one step above a multiple is rounded down to it
pub rounds : (n s g : ℕ) → 0 < s → g % s ≡ 0 → g ≤ n → n < g + s → n / s * s ≡ g
rounds n s g h e low high =
    let whole : s * (g / s) + g % s ≡ g = omega arith in
    let turned : g / s * s ≡ g = omega (arith, whole, e) in
    let q = g / s in
    let at : n / s ≡ q = div-eq_of_lt-le {k = q} s {m = n} (omega (arith, turned, low))
    (omega (arith, turned, high)) in
    ap (λ x. x * s) at ∙ turned

-- ---- the younger a calibration is, the better

at_least_zero_rises : (a b : ℤ) → a ≤ℤ b → at_least_zero a ≤ at_least_zero b
at_least_zero_rises (pos m) (pos n) h = omega (arith, ints, h)
at_least_zero_rises (pos m) (negsuc n) h = omega (arith, ints, h)
at_least_zero_rises (negsuc m) (pos n) h = omega arith
at_least_zero_rises (negsuc m) (negsuc n) h = omega arith

elapsed_rises : (c : Calibration) (a b : ℤ) → a ≤ℤ b → elapsed a c ≤ elapsed b c
elapsed_rises c a b h = at_least_zero_rises (a -ℤ c.reading) (b -ℤ c.reading) (omega (arith, ints, h))

div_rises : (a b k : ℕ) → 0 < k → a ≤ b → a / k ≤ b / k
div_rises a b k h le = le-div (a / k) b k h (omega (arith, div-mul-le_self a k, le))

pub deviation_rises : (counter : CounterValue) (c : Calibration) (a b : ℤ) → a ≤ℤ b
    → deviation counter a c ≤ deviation counter b c
deviation_rises counter c a b h =
    let more = mul-le-mul_right {m = elapsed a c} {n = elapsed b c} counter.drift_ppb (elapsed_rises c a b h) in
    let up = div_rises (elapsed a c * counter.drift_ppb + 999_999_999) (elapsed b c * counter.drift_ppb + 999_999_999)
    1_000_000_000 (omega arith) (omega (arith, more)) in
    omega (arith, up)

-- where the clock is good at a later reading of the same genTime, it is at the first that isn't held
pub good_earlier : (counter : CounterValue) (holds others : List HoldValue) (last : Option ℕ) (stated : ℕ)
    (c : CalibrationValue) (next : Option CalibrationValue) (first later : ℤ) → first ≤ℤ later
    → IsFreeReading counter holds stated c next first → IsReadUnder counter stated c next later
    → IsGood counter (clock_at others last c later) → IsGood counter (clock_at holds last c first)
good_earlier counter holds others last stated c next first later h free under good =
    let same : good.calibration ≡ calibration_of c = same_Some _ _ (sym good.calibrated) in
    let age : elapsed later (calibration_of c) ≤ counter.max_age_us =
    subst (λ x. elapsed later x ≤ counter.max_age_us) same good.age in
    let accurate : deviation counter later (calibration_of c) + (step counter - 1) ≤ counter.accuracy_us =
    subst (λ x. deviation counter later x + (step counter - 1) ≤ counter.accuracy_us) same good.accurate in
    let stated_now : now_at later (calibration_of c) ≡ pos good.now =
    subst (λ x. now_at later x ≡ pos good.now) same good.stated in
    let is_later : pos under.now ≡ pos good.now = sym under.is_now ∙ stated_now in
    let same_now : under.now ≡ good.now = omega (arith, ints, is_later) in
    let before_it : free.under.now ≤ good.now = omega (arith, ints, free.under.is_now, stated_now, h) in
    let older = elapsed_rises (calibration_of c) first later h in
    let wider = deviation_rises counter (calibration_of c) first later h in
    record {
      calibration = calibration_of c;
      calibrated = refl;
      after = free.under.since;
      age = omega (arith, older, age);
      accurate = omega (arith, wider, accurate);
      now = free.under.now;
      stated = free.under.is_now;
      statable = omega (arith, before_it, good.statable);
      free = free.free;
      follows = subst (Follows counter.ordering last) (ap (gen_time counter) (sym same_now) ∙ (under.rounded
          ∙ sym free.under.rounded)) good.follows;
    }

-- ---- one of some

pub some_map : (P Q : CalibrationValue → Option CalibrationValue → Type 0)
    → ((c : CalibrationValue) (next : Option CalibrationValue) → P c next → Q c next)
    → (cs : List CalibrationValue) → IsOfSome P cs → IsOfSome Q cs
some_map P Q f [] h = h
some_map P Q f (c ∷ cs) (inl h) = inl (f c _ h)
some_map P Q f (c ∷ cs) (inr h) = inr (some_map P Q f cs h)

some_of_drop : {X : Type 0} (P : CalibrationValue → Option CalibrationValue → Type 0) (view : X → CalibrationValue)
    (n : ℕ) (xs : List X) → IsOfSome P (map view (drop n xs)) → IsOfSome P (map view xs)
some_of_drop P view (suc n) (x ∷ xs) h = inr (some_of_drop P view n xs h)
some_of_drop P view _ _ h = h

-- ---- what a good clock says

-- its moment has the genTime
pub good_rounds : (e : EvidenceValue) (last : Option ℕ) (stated : ℕ) (clock : ClockFacts) (cs : List CalibrationValue)
    → IsOfSome (IsClockUnder e last stated clock) cs → (good : IsGood e.file.counter clock)
    → gen_time e.file.counter good.now ≡ stated
good_rounds e last stated clock [] h good = absurd h
good_rounds e last stated clock (c ∷ cs) (inr h) good = good_rounds e last stated clock cs h good
good_rounds e last stated clock (c ∷ cs) (inl (reading, under, is)) good =
    let calibrated : Some (calibration_of c) ≡ Some good.calibration =
    sym (ap (λ x. x.calibration) is) ∙ good.calibrated in
    let same : calibration_of c ≡ good.calibration = same_Some _ _ calibrated in
    let at : now_at reading (calibration_of c) ≡ pos good.now =
    ap (λ x. now_at x (calibration_of c)) (sym (ap (λ x. x.reading) is))
    ∙ (ap (now_at clock.reading) same ∙ good.stated) in
    let pair : pos under.now ≡ pos good.now = sym under.is_now ∙ at in
    let same_now : under.now ≡ good.now = omega (arith, ints, pair) in
    ap (gen_time e.file.counter) (sym same_now) ∙ under.rounded

-- a clock without a calibration isn't good
pub uncalibrated_bad : (counter : CounterValue) → IsGood counter uncalibrated → ⊥
uncalibrated_bad counter good = none-some good.calibration good.calibrated

-- ---- the first reading that isn't held

-- each free reading is of this moment or a later one, less than a step after the genTime
pub free_after : (counter : CounterValue) (holds : List HoldValue) (stated : ℕ) (c : CalibrationValue)
    (next : Option CalibrationValue) (now : ℕ) → IsFirstFree holds stated c now
    → (reading : ℤ) (k : IsFreeReading counter holds stated c next reading)
    → (now ≤ k.under.now) × (k.under.now < stated + step counter)
free_after counter holds stated c next now searched reading k =
    let near = rounded_near k.under.now (step counter) stated (step_positive (6 - counter.fraction_digits))
    k.under.rounded in
    let is = k.under.is_now in
    let since = k.under.since in
    let after : (c.reading +ℤ c.offset) ≤ℤ pos k.under.now = omega (arith, ints, is, since) in (
      by_lt_z (pos k.under.now) (pos now)
          (λ before. absurd (true≢false (sym (searched.first k.under.now near.0 after (omega (arith, ints, before)))
          ∙ (ap (is_held_by holds) (sym is) ∙ k.free))))
          (λ later. omega (arith, ints, later)),
      near.1,
    )

pub is_multiple : (counter : CounterValue) (stated : ℕ) (c : CalibrationValue) (next : Option CalibrationValue)
    (reading : ℤ) → IsReadUnder counter stated c next reading → stated % step counter ≡ 0
is_multiple counter stated c next reading k =
    whole_rest stated (step counter) (step_positive (6 - counter.fraction_digits))
    (rounded_whole k.now (step counter) stated (step_positive (6 - counter.fraction_digits)) k.rounded)

-- the reading of that moment is the first
pub not_later : (counter : CounterValue) (holds : List HoldValue) (stated : ℕ) (c : CalibrationValue)
    (next : Option CalibrationValue) (now : ℕ) (reading : ℤ) → IsFirstFree holds stated c now
    → (reading +ℤ c.offset) ≡ pos now → (other : ℤ) → IsFreeReading counter holds stated c next other
    → reading ≤ℤ other
not_later counter holds stated c next now reading searched is other k =
    let after = (free_after counter holds stated c next now searched other k).0 in
    let at = k.under.is_now in
    omega (arith, ints, is, at, after)

pub first_is : (counter : CounterValue) (holds : List HoldValue) (stated : ℕ) (c : CalibrationValue)
    (next : Option CalibrationValue) (now : ℕ) (reading : ℤ) → IsFirstFree holds stated c now
    → stated % step counter ≡ 0 → now - stated < step counter → (reading +ℤ c.offset) ≡ pos now
    → reading ≤ℤ pos greatest_number → IfSome next (λ n. reading ≤ℤ n.reading)
    → IsFirstReading counter holds stated c next (Some reading)
first_is counter holds stated c next now reading searched multiple near is fits until =
    let since = searched.since in (
      record {
        under = record {
          since = omega (arith, ints, is, since);
          until = until;
          counted = fits;
          now = now;
          is_now = is;
          rounded = rounds now (step counter) stated (step_positive (6 - counter.fraction_digits)) multiple
              searched.stated_since (omega (arith, near, searched.stated_since));
        };
        free = ap (is_held_by holds) is ∙ searched.free;
      },
      not_later counter holds stated c next now reading searched is,
    )

-- where the clock is bad at the first free reading, it is good at none
pub bad_under : (e : EvidenceValue) (last : Option ℕ) (stated : ℕ) (c : CalibrationValue)
    (next : Option CalibrationValue) (first : ℤ) (calibration : Calibration) → calibration ≡ calibration_of c
    → IsFirstReading e.file.counter e.holds stated c next (Some first)
    → (IsGood e.file.counter
    (record { reading = first; calibration = Some calibration; held = false; last_gen_time = last }) → ⊥)
    → (clock : ClockFacts) → IsGoodUnder e last stated clock c next → ⊥
bad_under e last stated c next first calibration same found bad clock ((reading, under, is), good) =
    let free : is_held_by e.holds (now_at reading (calibration_of c)) ≡ false =
    sym (ap (λ (x : ClockFacts). x.held) is) ∙ good.free in
    let later = found.1 reading (record { under = under; free = free }) in
    let good_there : IsGood e.file.counter (clock_at e.holds last c reading) =
    subst (IsGood e.file.counter) is good in
    let good_first : IsGood e.file.counter (clock_at e.holds last c first) =
    good_earlier e.file.counter e.holds e.holds last stated c next first reading later found.0 under good_there in
    let good_unheld : IsGood e.file.counter
    (record { reading = first; calibration = Some (calibration_of c); held = false; last_gen_time = last }) =
    subst (λ held. IsGood e.file.counter
    (record { reading = first; calibration = Some (calibration_of c); held = held; last_gen_time = last }))
    found.0.free good_first in
    bad (subst (λ x. IsGood e.file.counter
    (record { reading = first; calibration = Some x; held = false; last_gen_time = last })) (sym same) good_unheld)

-- ---- the first hold that has a moment

abbrev pub has_moment : ℤ → HoldValue → Bool
has_moment now h = int_le h.from now && int_lt now h.to

decided : (v : Bool) → (v ≡ false → ⊥) → v ≡ true
decided true fails = refl
decided false fails = absurd (fails refl)

both : (v w : Bool) → (v && w) ≡ true → (v ≡ true) × (w ≡ true)
both true w e = (refl, e)
both false w e = cc

none_next : {X : Type 0} (view : X → HoldValue) (test : HoldValue → Bool) (x : X) (xs : List X) (b : Bool)
    → test (view x) ≡ b → (find (λ x. test (view x)) xs ≡ None → list_any test (map view xs) ≡ false)
    → find (λ x. test (view x)) (x ∷ xs) ≡ None → list_any test (map view (x ∷ xs)) ≡ false
none_next view test x xs true e rest h = let k = rw e at h in absurd (none-some x (sym k))
none_next view test x xs false e rest h = let k = rw e at h in rw e (rest k)

none_holds : {X : Type 0} (view : X → HoldValue) (test : HoldValue → Bool) (xs : List X)
    → find (λ x. test (view x)) xs ≡ None → list_any test (map view xs) ≡ false
none_holds view test [] e = refl
none_holds view test (x ∷ xs) e = none_next view test x xs (test (view x)) refl (none_holds view test xs) e

-- a moment is held where the first hold that has another one has it
IsHeldBy : {X : Type 0} → (X → HoldValue) → (HoldValue → Bool) → List X → X → Type 0
IsHeldBy view test xs x =
    (test (view x) ≡ true)
    × ((other : HoldValue → Bool) → other (view x) ≡ true → list_any other (map view xs) ≡ true)

one_next : {X : Type 0} (view : X → HoldValue) (test : HoldValue → Bool) (y : X) (xs : List X) (x : X) (b : Bool)
    → test (view y) ≡ b → (find (λ x. test (view x)) xs ≡ Some x → IsHeldBy view test xs x)
    → find (λ x. test (view x)) (y ∷ xs) ≡ Some x → IsHeldBy view test (y ∷ xs) x
unfolding IsHeldBy
one_next view test y xs x true e rest h =
    let k = rw e at h in
    let same : y ≡ x = same_Some y x k in (
      subst (λ z. test (view z) ≡ true) same e,
      λ other o. (let here : other (view y) ≡ true = subst (λ z. other (view z) ≡ true) (sym same) o in rw here refl),
    )
one_next view test y xs x false e rest h =
    let k = rw e at h in
    let r = rest k in
    (r.0, λ other o. or_right (other (view y)) (list_any other (map view xs)) (r.1 other o))

one_holds : {X : Type 0} (view : X → HoldValue) (test : HoldValue → Bool) (xs : List X) (x : X)
    → find (λ x. test (view x)) xs ≡ Some x → IsHeldBy view test xs x
one_holds view test [] x e = absurd (none-some x e)
one_holds view test (y ∷ xs) x e = one_next view test y xs x (test (view y)) refl (one_holds view test xs x) e

pub free_where_none : (xs : List Hold) (now : ℕ)
    → find (λ h. int_le h.from (pos now) && int_lt (pos now) h.to) xs ≡ None
    → is_held_by (map hold_view xs) (pos now) ≡ false
free_where_none xs now e = none_holds hold_view (has_moment (pos now)) xs e

pub ends_after : (xs : List Hold) (now : ℕ) (h : Hold)
    → find (λ h. int_le h.from (pos now) && int_lt (pos now) h.to) xs ≡ Some h → pos now <ℤ h.to
unfolding IsHeldBy
ends_after xs now h e =
    let last = (both (int_le h.from (pos now)) (int_lt (pos now) h.to) (one_holds hold_view (has_moment (pos now)) xs h
    e).0).1 in
    omega (arith, ints, last)

pub held_until : (xs : List Hold) (now end : ℕ) (h : Hold)
    → find (λ h. int_le h.from (pos now) && int_lt (pos now) h.to) xs ≡ Some h → pos end ≡ h.to
    → (n : ℕ) → now ≤ n → n < end → is_held_by (map hold_view xs) (pos n) ≡ true
unfolding IsHeldBy
held_until xs now end h e is n from before =
    let held = one_holds hold_view (has_moment (pos now)) xs h e in
    let parts = both (int_le h.from (pos now)) (int_lt (pos now) h.to) held.0 in
    let first = parts.0 in
    let begun : int_le h.from (pos n) ≡ true =
    decided (int_le h.from (pos n)) (λ fails. omega (arith, ints, first, from, fails)) in
    let unended : int_lt (pos n) h.to ≡ true =
    decided (int_lt (pos n) h.to) (λ fails. omega (arith, ints, is, before, fails)) in
    held.1 (has_moment (pos n)) (rw (begun, unended) refl)

pub held_further : (holds : List HoldValue) (from now end : ℕ)
    → ((n : ℕ) → from ≤ n → n < now → is_held_by holds (pos n) ≡ true)
    → ((n : ℕ) → now ≤ n → n < end → is_held_by holds (pos n) ≡ true)
    → (n : ℕ) → from ≤ n → n < end → is_held_by holds (pos n) ≡ true
held_further holds from now end earlier later n after before =
    by_lt_z (pos n) (pos now) (λ less. earlier n after (omega (arith, ints, less)))
    (λ more. later n (omega (arith, ints, more)) before)

-- ---- the calibrations that are left

-- what is found under one of those that are left is found under one of all, and the other way round
pub record AreLeft (e : EvidenceValue) (last : Option ℕ) (stated : ℕ) (all left : List CalibrationValue) : Type 0 where
  pub to_left : (clock : ClockFacts) → IsOfSome (IsGoodUnder e last stated clock) all
      → IsOfSome (IsGoodUnder e last stated clock) left
  pub to_all : (clock : ClockFacts) → IsOfSome (IsGoodUnder e last stated clock) left
      → IsOfSome (IsGoodUnder e last stated clock) all

good_later : (e : EvidenceValue) (last : Option ℕ) (stated : ℕ) (clock : ClockFacts) (c : CalibrationValue)
    (later : List CalibrationValue) → (IsGoodUnder e last stated clock c (first_of later) → ⊥)
    → IsOfSome (IsGoodUnder e last stated clock) (c ∷ later) → IsOfSome (IsGoodUnder e last stated clock) later
good_later e last stated clock c later none (inl here) = absurd (none here)
good_later e last stated clock c later none (inr there) = there

pub skipped : (e : EvidenceValue) (last : Option ℕ) (stated : ℕ) (all left later : List CalibrationValue)
    (c : CalibrationValue) → left ≡ c ∷ later → IsGoodClockUnder e last stated c (first_of later) None
    → AreLeft e last stated all left → AreLeft e last stated all later
skipped e last stated all left later c is none k = record {
  to_left = λ clock h. good_later e last stated clock c later (none clock)
      (subst (IsOfSome (IsGoodUnder e last stated clock)) is (k.to_left clock h));
  to_all = λ clock h. k.to_all clock (subst (IsOfSome (IsGoodUnder e last stated clock)) (sym is) (inr h));
}

pub found_here : (e : EvidenceValue) (last : Option ℕ) (stated : ℕ) (all left later : List CalibrationValue)
    (c : CalibrationValue) (clock : ClockFacts) → left ≡ c ∷ later
    → IsGoodUnder e last stated clock c (first_of later) → AreLeft e last stated all left
    → IsOfSome (IsGoodUnder e last stated clock) all
found_here e last stated all left later c clock is here k =
    k.to_all clock (subst (IsOfSome (IsGoodUnder e last stated clock)) (sym is) (inl here))

pub none_left : (e : EvidenceValue) (last : Option ℕ) (stated : ℕ) (all left : List CalibrationValue) → left ≡ []
    → AreLeft e last stated all left → IsGoodClock e last stated all None
none_left e last stated all left is k clock h =
    subst (IsOfSome (IsGoodUnder e last stated clock)) is (k.to_left clock h)

-- where none was found under the first of them
pub skips : (e : EvidenceValue) (last : Option ℕ) (stated : ℕ) (all left later : List CalibrationValue)
    (c : CalibrationValue) (next : Option CalibrationValue) (found : Option ClockFacts) → left ≡ c ∷ later
    → next ≡ first_of later → is_some found ≡ false → IsGoodClockUnder e last stated c next found
    → AreLeft e last stated all left → AreLeft e last stated all later
skips e last stated all left later c next None is follows none h k =
    skipped e last stated all left later c is (subst (λ n. IsGoodClockUnder e last stated c n None) follows h) k
skips e last stated all left later c next (Some clock) is follows none h k = absurd (true≢false none)

-- where one was
pub finds : (e : EvidenceValue) (last : Option ℕ) (stated : ℕ) (all left later : List CalibrationValue)
    (c : CalibrationValue) (next : Option CalibrationValue) (found : Option ClockFacts) → left ≡ c ∷ later
    → next ≡ first_of later → is_some found ≡ true → IsGoodClockUnder e last stated c next found
    → AreLeft e last stated all left → IsGoodClock e last stated all found
finds e last stated all left later c next None is follows some h k = absurd (true≢false (sym some))
finds e last stated all left later c next (Some clock) is follows some h k =
    found_here e last stated all left later c clock is (subst (IsGoodUnder e last stated clock c) follows h) k

pub none_of : {X : Type 0} (view : X → CalibrationValue) (xs : List X) → length xs ≡ 0 → map view xs ≡ []
none_of view [] e = refl
none_of view (x ∷ xs) e = absurd (omega (arith, e))

pub some_of_suffix : {X : Type 0} (P : CalibrationValue → Option CalibrationValue → Type 0) (view : X → CalibrationValue)
    (n : ℕ) (xs back : List X) → back ≡ drop n xs → IsOfSome P (map view back) → IsOfSome P (map view xs)
some_of_suffix P view n xs back is h = some_of_drop P view n xs (subst (λ b. IsOfSome P (map view b)) is h)
