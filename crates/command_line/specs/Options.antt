-- The command line of the program, as `clap` models one: its subcommands, and the options of each.
use Rattle.std.specs.Prelude.{ℕ, true, pos, List, [], ◌∷◌, ◌++◌, Some, codes}
use Rattle.clap.specs.Words.{App, Rule, Text, new_app, new_rule, with_subcommand}
use Rattle.clap.specs.declared.builder.action.ArgAction.TheVariants.{Set, SetTrue}
use Rattle.clap.specs.{Simple.on_top, declared.builder.value_parser.ValueParser.ValueParser}
use Rattle.clap.specs.declared.builder.value_parser.ValueParser.TheVariants as parser

-- `--name VALUE`, which has to be there
abbrev pub required_option : Text → ValueParser → Rule
required_option name values = record (new_rule name) {
  long = Some name;
  action = Some Set;
  parser = Some values;
  required = true;
}

-- `--name VALUE`, which may be left out
abbrev pub optional_option : Text → ValueParser → Rule
optional_option name values = record (new_rule name) {
  long = Some name;
  action = Some Set;
  parser = Some values;
}

-- `--name`, which may be there
abbrev pub optional_flag : Text → Rule
optional_flag name = record (new_rule name) { long = Some name; action = Some SetTrue }

abbrev pub text_option : Text → Rule
text_option name = required_option name parser.String

abbrev pub optional_text_option : Text → Rule
optional_text_option name = optional_option name parser.String

-- decimal numbers from `least` to `most`
abbrev pub number_between : ℕ → ℕ → ValueParser
number_between least most = parser.Signed (pos least) (pos most)

-- microseconds since 1970-01-01T00:00:00Z
abbrev pub moment_option : Rule
moment_option = required_option (codes "moment") (number_between 0 253402300799999999)

-- fraction digits of a second
abbrev pub digits_option : Rule
digits_option = required_option (codes "digits") (number_between 0 6)

abbrev pub serial_option : Rule
serial_option = required_option (codes "serial") (number_between 1 9223372036854775807)

-- microseconds
abbrev pub accuracy_option : Rule
accuracy_option = required_option (codes "accuracy") (number_between 1 1000000)

abbrev pub tst_options : List Rule
tst_options =
    text_option (codes "policy")
    ∷ moment_option
    ∷ digits_option
    ∷ serial_option
    ∷ accuracy_option
    ∷ optional_flag (codes "ordering")
    ∷ []

abbrev pub rules_option : Rule
rules_option = text_option (codes "rules")

abbrev pub check_options : List Rule
check_options = rules_option ∷ []

abbrev pub database_option : Rule
database_option = text_option (codes "db")

abbrev pub init_options : List Rule
init_options = database_option ∷ []

abbrev pub migrate_options : List Rule
migrate_options = database_option ∷ []

-- the database that is carried on
abbrev pub old_database_option : Rule
old_database_option = text_option (codes "from")

-- a serial number above which later ones are, and a moment before which no later genTime is
abbrev pub above_option : Rule
above_option = optional_option (codes "above") (number_between 1 9223372036854775807)

abbrev pub least_moment_option : Rule
least_moment_option = optional_option (codes "moment") (number_between 0 253402300799999999)

abbrev pub continue_options : List Rule
continue_options = old_database_option ∷ database_option ∷ above_option ∷ least_moment_option ∷ []

-- numbers of 63 bits: readings, offsets and moments in microseconds, and serial numbers
abbrev pub whole_number : ValueParser
whole_number = number_between 0 9223372036854775807

abbrev pub reading_option : Rule
reading_option = required_option (codes "reading") whole_number

abbrev pub offset_option : Rule
offset_option = required_option (codes "offset") whole_number

-- microseconds
abbrev pub uncertainty_option : Rule
uncertainty_option = required_option (codes "uncertainty") (number_between 0 1000000000000)

abbrev pub calibrate_options : List Rule
calibrate_options =
    database_option
    ∷ reading_option
    ∷ offset_option
    ∷ optional_flag (codes "behind")
    ∷ uncertainty_option
    ∷ []

abbrev pub from_option : Rule
from_option = required_option (codes "from") whole_number

abbrev pub to_option : Rule
to_option = required_option (codes "to") whole_number

abbrev pub hold_options : List Rule
hold_options = database_option ∷ from_option ∷ to_option ∷ []

abbrev pub certificate_option : Rule
certificate_option = text_option (codes "certificate")

-- further certificates
abbrev pub chain_option : Rule
chain_option = optional_text_option (codes "chain")

abbrev pub signing_key_option : Rule
signing_key_option = optional_text_option (codes "signing-key")

abbrev pub signer_option : Rule
signer_option = optional_text_option (codes "signer")

abbrev pub signer_algorithm_option : Rule
signer_algorithm_option = optional_text_option (codes "signer-algorithm")

-- what the words that answer requests have in common
abbrev pub desk_options : List Rule
desk_options =
    database_option
    ∷ rules_option
    ∷ certificate_option
    ∷ chain_option
    ∷ signing_key_option
    ∷ signer_option
    ∷ signer_algorithm_option
    ∷ []

abbrev pub key_option : Rule
key_option = optional_text_option (codes "key")

abbrev pub answer_options : List Rule
answer_options = desk_options ++ (reading_option ∷ key_option ∷ [])

abbrev pub exchange_options : List Rule
exchange_options = desk_options ++ (reading_option ∷ [])

abbrev pub listen_option : Rule
listen_option = text_option (codes "listen")

abbrev pub connections_option : Rule
connections_option = required_option (codes "connections") (number_between 0 4294967295)

abbrev pub serve_options : List Rule
serve_options =
    desk_options ++ (listen_option ∷ connections_option ∷ optional_flag (codes "tell") ∷ [])

abbrev pub audit_options : List Rule
audit_options =
    database_option
    ∷ rules_option
    ∷ text_option (codes "account")
    ∷ from_option
    ∷ to_option
    ∷ optional_flag (codes "check")
    ∷ optional_flag (codes "judge")
    ∷ []

abbrev pub explain_options : List Rule
explain_options = database_option ∷ rules_option ∷ serial_option ∷ []

abbrev pub with_rules : List Rule → App → App
with_rules rules = on_top (λ top. record top { rules = rules })

abbrev pub tst_command : App
tst_command = with_rules tst_options (new_app (codes "tst"))

abbrev pub check_command : App
check_command = with_rules check_options (new_app (codes "check"))

abbrev pub init_command : App
init_command = with_rules init_options (new_app (codes "init"))

abbrev pub migrate_command : App
migrate_command = with_rules migrate_options (new_app (codes "migrate"))

abbrev pub continue_command : App
continue_command = with_rules continue_options (new_app (codes "continue"))

abbrev pub calibrate_command : App
calibrate_command = with_rules calibrate_options (new_app (codes "calibrate"))

abbrev pub hold_command : App
hold_command = with_rules hold_options (new_app (codes "hold"))

abbrev pub answer_command : App
answer_command = with_rules answer_options (new_app (codes "answer"))

abbrev pub exchange_command : App
exchange_command = with_rules exchange_options (new_app (codes "exchange"))

abbrev pub serve_command : App
serve_command = with_rules serve_options (new_app (codes "serve"))

abbrev pub audit_command : App
audit_command = with_rules audit_options (new_app (codes "audit"))

abbrev pub explain_command : App
explain_command = with_rules explain_options (new_app (codes "explain"))

abbrev pub with_subcommands : List App → App → App
with_subcommands [] app = app
with_subcommands (sub ∷ subs) app = with_subcommands subs (with_subcommand app sub.top)

abbrev pub subcommands : List App
subcommands =
    tst_command
    ∷ check_command
    ∷ init_command
    ∷ migrate_command
    ∷ continue_command
    ∷ calibrate_command
    ∷ hold_command
    ∷ answer_command
    ∷ exchange_command
    ∷ serve_command
    ∷ audit_command
    ∷ explain_command
    ∷ []

-- the program without its subcommands, of which one has to be there; it has a version to tell
abbrev pub bare_command : App
bare_command =
    on_top (λ top. record top { has_version = true; subcommand_required = true }) (new_app (codes "counter"))

abbrev pub counter_command : App
counter_command = with_subcommands subcommands bare_command
