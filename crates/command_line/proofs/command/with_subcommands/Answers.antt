use Rattle.clap.specs.Words.{app_of}
use Rattle.command_line.proofs.Commands.{adds_subcommand}
use Rattle.command_line.proofs.command.with_subcommands.Goals as goal

pub loop-row-preserved : goal.loop-row-preserved
loop-row-preserved c =
    adds_subcommand (app_of c.args.bare) c.args.rows.now c.loop-row.row-index _ _ _ c.loop-row-test.true
    c.loop-row.invariant c.in_ok-command.ensures
