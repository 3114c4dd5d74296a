use Rattle.tables.proofs.Words.{Int, SFits, ap, rules, sym, to_z-of_z, w64, ◌∙◌}
use Rattle.tables.proofs.holds.HoldFromRow.from_row.Goals as goal

pub returns : goal.returns
returns c =
    let from : SFits w64 c.in_ok-from.from = search rules in
    let to : SFits w64 c.in_ok-to.to = search rules in
    (c.in_ok-from.ensures ∙ ap Int (sym (to_z-of_z from)), c.in_ok-to.ensures ∙ ap Int (sym (to_z-of_z to)))
