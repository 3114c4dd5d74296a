use Rattle.std.proofs.{Common.◌/◌, Common.arith, Common.w16, lemmas.Int.to_z_pos}
use Rattle.gentime.specs.{Calendar.civil_date, GenTime.time_of}
use Rattle.gentime.proofs.components.Components.of.Goals as goal

pub returns-clause-parts : goal.returns-clause-parts
unfolding time_of
returns-clause-parts c =
    let year = to_z_pos w16 (civil_date (c.args.moment / 86_400_000_000)).year
    (omega (arith, c.civil_date-date.ensures.bound)) in
    rw (
      c.civil_date-date.ensures.year,
      year,
      c.civil_date-date.ensures.month,
      c.civil_date-date.ensures.day,
      c.requires.fraction,
    )
