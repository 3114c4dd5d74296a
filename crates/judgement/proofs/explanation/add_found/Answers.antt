use Rattle.std.proofs.Common.{codes}
use Rattle.std.specs.Fmt.{decimal, signed_decimal}
use Rattle.judgement.specs.Explanation.{named}
use Rattle.judgement.proofs.Explaining.{then_ok, three_behind}
use Rattle.judgement.proofs.explanation.add_found.Goals as goal

pub returns : goal.returns
returns c =
    let found = c.args.calibration.now in
    then_ok c.add_number.result _ _ c.add_number.ensures
    (three_behind c.args.lines.now.items c.add_signed.new.lines.items c.add_signed-2.new.lines.items
    c.add_number.new.lines.items (named (codes "calibration-reading") (signed_decimal found.reading))
    (named (codes "calibration-offset-us") (signed_decimal found.offset))
    (named (codes "calibration-uncertainty-us") (decimal found.uncertainty))
    c.in_ok-add_signed.ensures c.in_ok-add_signed-2.ensures)
