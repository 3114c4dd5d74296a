use Rattle.std.proofs.lemmas.Result.{IfOk-weaker}
use Rattle.command_line.proofs.Commands.{adds_row}
use Rattle.command_line.proofs.command.with_subcommand.Goals as goal

pub returns : goal.returns
returns c =
    IfOk-weaker c.subcommand-2.result _ _
    (λ more adds. adds_row c.args.row.now c.args.command more c.in_ok-subcommand.subcommand
    c.in_ok-subcommand.ensures adds)
    c.subcommand-2.ensures
