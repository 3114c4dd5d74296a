use Rattle.command_line.proofs.Commands.{adds_option}
use Rattle.command_line.proofs.command.subcommand.Goals as goal

pub loop-option-preserved : goal.loop-option-preserved
loop-option-preserved c =
    adds_option c.args.row.now.name.now c.args.row.now.options.now c.loop-option.option-index _ _ _
    c.loop-option-test.true c.loop-option.invariant c.in_ok-command.ensures
