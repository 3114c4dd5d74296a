use Rattle.std.proofs.Common.{◌≡◌, pos, ap, sym, ◌∙◌, arith, w32, FitsSigned}
use Rattle.std.proofs.lemmas.Int.{to_z-of_z}
use Rattle.gentime.proofs.Days.{epoch_day_from_1970, same_unsigned}
use Rattle.jiff_core.proofs.SignedLemmas.{signed_arith}
use Rattle.gentime.proofs.parser.days_since_1970.Goals as goal

pub returns : goal.returns
returns c =
    let days = c.to_unix_epoch_day.ensures in
    let fits : FitsSigned w32 c.to_unix_epoch_day.result = omega (arith, signed_arith, days.bound) in
    let back = to_z-of_z w32 c.to_unix_epoch_day.result fits in
    let value = rw back at c.unsigned_abs.ensures.value in
    let from = rw (← days.value) at (epoch_day_from_1970 c.args.date c.requires) in
    let same : c.to_unix_epoch_day.result ≡ pos c.unsigned_abs.result = same_unsigned c.to_unix_epoch_day.result from
    ∙ ap pos (sym value) in
    record {
      day = sym days.value ∙ same;
      bound = omega (arith, signed_arith, same, days.bound);
    }
