-- What the rows of the table of subcommands stand for in `clap`'s model: stepping stones of the proofs, which no public
-- clause cites.
use Rattle.std.specs.Prelude.{ℕ, Option, Some, None, map, min}
use Rattle.clap.specs.Words.{App, Rule, new_app, new_rule}
use Rattle.clap.specs.declared.builder.action.ArgAction.{ArgAction}
use Rattle.clap.specs.declared.builder.action.ArgAction.TheVariants.{Set, SetTrue}
use Rattle.clap.specs.declared.builder.value_parser.ValueParser.{ValueParser}
use Rattle.clap.specs.declared.builder.value_parser.ValueParser.TheVariants.{String}
use Rattle.command_line.specs.declared.options.Value.TheVariants.{Text, Number, Nothing}
use Rattle.command_line.specs.{Options.number_between, Options.with_rules, declared.options.OptionRow.OptionRow}
use Rattle.command_line.specs.{declared.options.Value.Value, declared.table.SubcommandRow.SubcommandRow}

abbrev pub action_in : Value → ArgAction
action_in Nothing = SetTrue
action_in _ = Set

-- the number, or the greatest of 63 bits
abbrev pub narrowed : ℕ → ℕ
narrowed number = min number 9223372036854775807

abbrev pub parser_in : Value → Option ValueParser
parser_in Text = Some String
parser_in (Number numbers) = Some (number_between (narrowed numbers.least) (narrowed numbers.most))
parser_in Nothing = None

abbrev pub rule_in : OptionRow → Rule
rule_in row = record (new_rule row.name.now) {
  long = Some row.name.now;
  action = Some (action_in row.value);
  parser = parser_in row.value;
  required = row.required;
}

abbrev pub app_in : SubcommandRow → App
app_in row = with_rules (map rule_in row.options.now) (new_app row.name.now)
