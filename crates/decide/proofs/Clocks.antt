-- The good state, and the promise on its genTime.
use Rattle.std.proofs.Common.{◌≡◌, ℕ, ◌<◌, ◌≤◌, ◌+◌, ◌-◌, ◌*◌, ◌/◌, ◌%◌, ◌^◌, ℤ, pos, Some, false, sym, ap, ◌∙◌, subst}
use Rattle.std.proofs.{Common.arith, Math.Nat.one-le-pow, lemmas.Int.ints, lemmas.Option.same_Some}
use Rattle.std.specs.Prelude.{◌≤ℤ◌}
use Rattle.gentime.specs.GenTime.{last_moment}
use Rattle.policy.specs.Record.{CounterValue}
use Rattle.decide.specs.Clock.{now_at, elapsed, divided_up, deviation, step, gen_time, Follows, IsGood, IsGoodAt}
use Rattle.decide.specs.Clock.{IsWithin, KeepsAccuracy}
use Rattle.decide.specs.declared.facts.{Calibration.Calibration, ClockFacts.ClockFacts}

pub good_at : (counter : CounterValue) (facts : ClockFacts) (calibration : Calibration) (since now moment : ℕ)
    → facts.calibration ≡ Some calibration → calibration.reading ≤ℤ facts.reading
    → since ≡ elapsed facts.reading calibration
    → since ≤ counter.max_age_us
    → calibration.uncertainty + divided_up (since * counter.drift_ppb) 1_000_000_000 + (step counter - 1)
    ≤ counter.accuracy_us
    → now_at facts.reading calibration ≡ pos now → now ≤ last_moment → facts.held ≡ false
    → moment ≡ gen_time counter now → Follows counter.ordering facts.last_gen_time moment
    → IsGoodAt counter facts moment
good_at counter facts calibration since now moment calibrated after e age accurate stated last free rounded follows =
    let P : ℕ → Type 0 = λ s. calibration.uncertainty + divided_up (s * counter.drift_ppb) 1_000_000_000
    + (step counter - 1) ≤ counter.accuracy_us in
    let good : IsGood counter facts =
    record {
      calibration = calibration;
      calibrated = calibrated;
      after = after;
      age = subst (λ s. s ≤ counter.max_age_us) e age;
      accurate = subst P e accurate;
      now = now;
      stated = stated;
      statable = last;
      free = free;
      follows = subst (Follows counter.ordering facts.last_gen_time) rounded follows;
    } in
    (good, rounded)

-- a number rounded down to a multiple is less than one multiple below it
rounded_near : (n s : ℕ) → 0 < s → (n / s * s ≤ n) × (n ≤ n / s * s + (s - 1))
rounded_near n s h =
    let whole : s * (n / s) + n % s ≡ n = omega arith in
    let small : n % s < s = omega arith in
    let turned : n / s * s ≡ s * (n / s) = omega arith in
    (omega (arith, whole, small, turned), omega (arith, whole, small, turned))

near : (now g d s a : ℕ) (z : ℤ) → g ≤ now → now ≤ g + (s - 1) → d + (s - 1) ≤ a → IsWithin d (pos now) z
    → IsWithin a (pos g) z
near now g d s a z low high fits within =
    let below = within.below in
    let above = within.above in
    record { below = omega (arith, ints, below); above = omega (arith, ints, above) }

step_positive : (k : ℕ) → 0 < 10 ^ k
step_positive k = omega (arith, one-le-pow k 10 (omega arith))

pub keeps_accuracy : (counter : CounterValue) (facts : ClockFacts) (moment : ℕ) → IsGoodAt counter facts moment
    → KeepsAccuracy counter facts moment
keeps_accuracy counter facts moment (good, rounded) calibration calibrated z within =
    let same : good.calibration ≡ calibration = same_Some _ _ (sym good.calibrated ∙ calibrated) in
    let s = step counter in
    let by_good : IsWithin (deviation counter facts.reading good.calibration)
    (now_at facts.reading good.calibration) z =
    subst (λ x. IsWithin (deviation counter facts.reading x) (now_at facts.reading x) z) (sym same) within in
    let by_now : IsWithin (deviation counter facts.reading good.calibration) (pos good.now) z =
    subst (λ x. IsWithin (deviation counter facts.reading good.calibration) x z) good.stated by_good in
    let bounds = rounded_near good.now s (step_positive (6 - counter.fraction_digits)) in
    subst (λ g. IsWithin counter.accuracy_us (pos g) z) (sym rounded)
    (near good.now (gen_time counter good.now)
    (deviation counter facts.reading good.calibration) s counter.accuracy_us z bounds.0 bounds.1 good.accurate
    by_now)

-- a good clock gives one genTime
pub one_gen_time : (counter : CounterValue) (facts : ClockFacts) (one other : ℕ) → IsGoodAt counter facts one
    → IsGoodAt counter facts other → one ≡ other
one_gen_time counter facts one other (good, rounded) (again, rounded_again) =
    let same : good.calibration ≡ again.calibration = same_Some _ _ (sym good.calibrated ∙ again.calibrated) in
    let now : pos good.now ≡ pos again.now =
    sym good.stated ∙ ap (now_at facts.reading) same ∙ again.stated in
    let same_now : good.now ≡ again.now = omega (arith, ints, now) in
    rounded ∙ ap (gen_time counter) same_now ∙ sym rounded_again
