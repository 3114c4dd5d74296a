use Rattle.tables.proofs.Words.{Int, SFits, ap, rules, sym, to_z-of_z, w64, ◌∙◌}
use Rattle.tables.proofs.calibrations.NumberedCalibrationFromRow.from_row.Goals as goal

pub returns : goal.returns
returns c =
    let reading : SFits w64 c.in_ok-reading.reading = search rules in
    let offset : SFits w64 c.in_ok-offset.offset = search rules in (
      c.in_ok-n.ensures.read,
      c.in_ok-reading.ensures ∙ ap Int (sym (to_z-of_z reading)),
      c.in_ok-offset.ensures ∙ ap Int (sym (to_z-of_z offset)),
      c.in_ok-uncertainty.ensures.read,
    )
