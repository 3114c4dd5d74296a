use Rattle.std.proofs.{Common.arith, Common.w64, Common.◌∙◌, lemmas.Int.to_z_pos}
use Rattle.gentime.proofs.Days.{civil_date_of, civil_date_year}
use Rattle.gentime.proofs.components.civil_date.Goals as goal

pub returns : goal.returns
returns c =
    let same = rw c.unwrap.ensures at c.from_unix_epoch_day.ensures.value in
    let parts = civil_date_of c.unwrap.result c.args.day c.requires
    (same ∙ to_z_pos w64 c.args.day (omega (arith, c.requires))) in
    record {
      year = parts.0;
      month = parts.1;
      day = parts.2;
      bound = civil_date_year c.args.day c.requires;
    }
