use Rattle.std.proofs.Common.{◌≡◌, ◌%◌, ℤ, Some, map, option_map, rules, arith, w64, SFits, to_z-of_z, sym, ap, ◌∙◌}
use Rattle.std.proofs.{Common.subst, lemmas.Int.ints}
use Rattle.std.specs.Prelude.{◌≤ℤ◌, IfSome, pos}
use Rattle.decide.specs.Clock.{step}
use Rattle.policy.specs.View.{counter_view}
use Rattle.book.specs.{Sound.greatest_number, Values.calibration_view, Values.hold_view}
use Rattle.judgement.specs.auxiliary.Search.{IsFirstReading}
use Rattle.judgement.proofs.Clocks.{first_is, is_multiple}
use Rattle.judgement.proofs.readings.first_reading.Goals as goal

pub returns-then-gen_time-step-ne0 : goal.returns-then-gen_time-step-ne0
returns-then-gen_time-step-ne0 c = λ reading k.
    absurd (c.if-gen_time-step-ne0.true (ap (λ s. c.args.gen_time % s) c.step-step.ensures.value
    ∙ is_multiple (counter_view c.args.counter.now) c.args.gen_time (calibration_view c.args.calibration.now) _ reading
    k.under))

pub returns-then-precedes : goal.returns-then-precedes
returns-then-precedes c =
    let r = c.in-Some.reading in
    let fits : SFits w64 r = search rules in
    let counter = counter_view c.args.counter.now in
    let holds = map hold_view c.args.holds.now in
    let calibration = calibration_view c.args.calibration.now in
    let next = option_map (λ x. calibration_view x.now) c.args.next in
    let small : r ≤ℤ pos greatest_number = omega (arith, ints, fits) in
    let until = c.is_before-precedes.ensures.0 c.if-precedes.true in
    let U : ℤ → Type 0 = λ z. IfSome next (λ n. z ≤ℤ n.reading) in
    let is_until : U r = subst U (to_z-of_z fits) until in
    let multiple : c.args.gen_time % step counter ≡ 0 =
    ap (λ s. c.args.gen_time % s) (sym c.step-step.ensures.value) ∙ c.if-gen_time-step-ne0.false in
    let F : ℤ → Type 0 = λ z. IsFirstReading counter holds c.args.gen_time calibration next (Some z) in
    subst F (sym (to_z-of_z fits))
    (first_is counter holds c.args.gen_time calibration next c.first_moment-now.result r c.first_moment-now.ensures
    multiple (omega (arith, c.step-step.ensures.value, c.if-after-step.false)) c.in-Some.ensures small is_until)
