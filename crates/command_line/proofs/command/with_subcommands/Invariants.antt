use Rattle.std.proofs.Common.{◌≡◌, map, take}
use Rattle.clap.specs.Words.{app_of}
use Rattle.command_line.specs.{Options.with_subcommands, auxiliary.Table.app_in}
use Rattle.command_line.proofs.command.with_subcommands.Given as goal

abbrev pub invariant-loop-row : goal.invariant-loop-row
invariant-loop-row l =
    app_of l.command ≡ with_subcommands (map app_in (take l.row-index l.rows)) (app_of l.fn.bare)
