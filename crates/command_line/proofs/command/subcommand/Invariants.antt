use Rattle.std.proofs.Common.{◌≡◌, map, take}
use Rattle.clap.specs.Words.{app_of, new_app}
use Rattle.command_line.specs.{Options.with_rules, auxiliary.Table.rule_in}
use Rattle.command_line.proofs.command.subcommand.Given as goal

abbrev pub invariant-loop-option : goal.invariant-loop-option
invariant-loop-option l =
    app_of l.command ≡ with_rules (map rule_in (take l.option-index l.row.options.now)) (new_app l.row.name.now)
