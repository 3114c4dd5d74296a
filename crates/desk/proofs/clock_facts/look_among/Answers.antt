use Rattle.std.proofs.Common.{[], Some, refl, sym, ap, ◌∙◌, arith, SFits, w64, to_z-of_z, rules}
use Rattle.desk.specs.Calls.{looked_at}
use Rattle.desk.proofs.stamps.Among.{looked_by, looked_last}
use Rattle.desk.proofs.clock_facts.look_among.Goals as goal

pub returns-in-Some-clause-rises : goal.returns-in-Some-clause-rises
returns-in-Some-clause-rises g c sound =
    let last = c.in-Some.last.now in
    let is = looked_last c.args.reading c.args.waits.now last [] (looked_at c.args.reading [])
    (sym c.in-Some.ensures.value) refl sound in
    omega (arith, ap (λ l. l.serial) is)

pub returns-in-Some-clause-value : goal.returns-in-Some-clause-value
returns-in-Some-clause-value g c honest b s sound =
    let reading : SFits w64 c.args.reading = search rules in
    let looked = c.in_ok-looked.looked in
    let last = c.in-Some.last.now in
    ap (λ x. looked_by x looked.clock.calibration looked.clock.held (Some c.moment_of.result) last.unsigned.serial)
    (to_z-of_z reading)
    ∙ (ap (λ m. looked_by c.args.reading looked.clock.calibration looked.clock.held (Some m) last.unsigned.serial)
    c.moment_of.ensures
    ∙ looked_last c.args.reading c.args.waits.now last b looked (sym c.in-Some.ensures.value)
    (c.in_ok-looked.ensures.value honest b s ∙ ap (λ x. looked_at x b) (to_z-of_z reading)) sound)
