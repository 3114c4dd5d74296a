use Rattle.std.proofs.Common.{◌≡◌, sym, ◌∙◌, arith}
use Rattle.gentime.specs.{Calendar.civil_date, auxiliary.Components.plain, auxiliary.Fraction.micros_of}
use Rattle.gentime.proofs.{Days.civil_date_of, Fractions.micros_of_bound}
use Rattle.gentime.proofs.Moments.{moment_at_bound, seconds_of, seconds_of_bound, time_of-moment_at}
use Rattle.jiff_core.proofs.SignedLemmas.{signed_arith}
use Rattle.gentime.proofs.components.Components.micros.Goals as goal

pub returns-clause-moment : goal.returns-clause-moment
returns-clause-moment c =
    let day = c.days_since_1970.ensures in
    let parts = civil_date_of c.args.date c.days_since_1970.result day.bound day.day in
    let year : (civil_date c.days_since_1970.result).year ≡ c.args.self.now.year =
    omega (arith, signed_arith, parts.0, c.requires.date.0) in
    let bound = moment_at_bound c.days_since_1970.result (seconds_of (plain c.args.self.now))
    (micros_of c.args.self.now.fraction.now) day.bound (seconds_of_bound (plain c.args.self.now) c.requires.time)
    (micros_of_bound _ c.requires.formed.fraction.0) in
    rw (
      c.from-day.ensures,
      c.from.ensures,
      c.from-2.ensures,
      c.from-3.ensures,
      c.from-4.ensures,
      c.micros_of.ensures.value,
    ) (
      bound,
      time_of-moment_at (plain c.args.self.now) c.days_since_1970.result c.requires.formed c.requires.time
          (record { year = omega arith; micros = omega arith }) year (sym parts.1 ∙ c.requires.date.1)
          (sym parts.2 ∙ c.requires.date.2),
    )
