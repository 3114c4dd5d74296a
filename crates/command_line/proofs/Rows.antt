-- The command line, computed on words.
use Rattle.std.proofs.Common.{◌≡◌, List, [], ◌∷◌, ◌++◌, Some, codes, inl, refl}
use Rattle.std.specs.Prelude.{option_map}
use Rattle.clap.specs.Words.{Text, fault_of, first_of, one_of, subcommand_of}
use Rattle.clap.specs.declared.error.kind.ErrorKind.TheVariants.{ArgumentConflict, DisplayHelp, DisplayVersion}
use Rattle.clap.specs.declared.error.kind.ErrorKind.TheVariants.{MissingRequiredArgument, MissingSubcommand}
use Rattle.clap.specs.declared.error.kind.ErrorKind.TheVariants.{TooManyValues, UnknownArgument}
use Rattle.clap.specs.declared.error.kind.ErrorKind.TheVariants.{ValueValidation}
use Rattle.clap.proofs.OnLiterals.{clap_on_literals}
use Rattle.command_line.specs.{Options.counter_command, Words.AreTaken, Words.AsksHelp, Words.MixSigners}

abbrev tst_words : Text → List Text
tst_words digits =
    codes "counter" ∷ codes "tst" ∷ codes "--policy" ∷ codes "2.999.1" ∷ codes "--moment=5" ∷ codes "--digits" ∷ digits
    ∷ codes "--serial" ∷ codes "1" ∷ codes "--accuracy" ∷ codes "1000000" ∷ codes "--ordering" ∷ []

pub tst_is_taken : AreTaken (tst_words (codes "6"))
unfolding clap_on_literals
tst_is_taken = (refl, refl)

pub policy_of_tst : option_map (λ p. first_of (codes "policy") p.1)
    (subcommand_of counter_command (tst_words (codes "6"))) ≡ Some (Some (codes "2.999.1"))
unfolding clap_on_literals
policy_of_tst = refl

pub moment_of_tst : option_map (λ p. one_of (codes "moment") p.1)
    (subcommand_of counter_command (tst_words (codes "6"))) ≡ Some (Some (codes "5"))
unfolding clap_on_literals
moment_of_tst = refl

pub ordering_of_tst : option_map (λ p. one_of (codes "ordering") p.1)
    (subcommand_of counter_command (tst_words (codes "6"))) ≡ Some (Some (codes "true"))
unfolding clap_on_literals
ordering_of_tst = refl

pub seven_digits_are_refused : fault_of counter_command (tst_words (codes "7")) ≡ ValueValidation ∷ []
unfolding clap_on_literals
seven_digits_are_refused = refl

-- a number below the least, an option that stands twice, a word too many, an unknown option, a value of a flag, help
-- among all that is needed
pub minus_is_refused : fault_of counter_command (codes "counter" ∷ codes "tst" ∷ codes "--serial=-5" ∷ [])
    ≡ ValueValidation ∷ []
unfolding clap_on_literals
minus_is_refused = refl

pub twice_is_refused : fault_of counter_command (tst_words (codes "6") ++ (codes "--digits" ∷ codes "6" ∷ []))
    ≡ ArgumentConflict ∷ []
unfolding clap_on_literals
twice_is_refused = refl

pub word_too_many_is_refused : fault_of counter_command (tst_words (codes "6") ++ (codes "3" ∷ []))
    ≡ UnknownArgument ∷ []
unfolding clap_on_literals
word_too_many_is_refused = refl

pub other_option_is_refused : fault_of counter_command (tst_words (codes "6") ++ (codes "--colour" ∷ []))
    ≡ UnknownArgument ∷ []
unfolding clap_on_literals
other_option_is_refused = refl

pub value_of_flag_is_refused : fault_of counter_command (codes "counter" ∷ codes "tst" ∷ codes "--ordering=true" ∷ [])
    ≡ TooManyValues ∷ []
unfolding clap_on_literals
value_of_flag_is_refused = refl

pub help_among_settings_is_asked : fault_of counter_command (tst_words (codes "6") ++ (codes "--help" ∷ []))
    ≡ DisplayHelp ∷ []
unfolding clap_on_literals
help_among_settings_is_asked = refl

pub version_is_asked : fault_of counter_command (codes "counter" ∷ codes "--version" ∷ []) ≡ DisplayVersion ∷ []
unfolding clap_on_literals
version_is_asked = refl

pub check_needs_rules : fault_of counter_command (codes "counter" ∷ codes "check" ∷ []) ≡ MissingRequiredArgument ∷ []
unfolding clap_on_literals
check_needs_rules = refl

pub one_subcommand_is_needed : fault_of counter_command (codes "counter" ∷ []) ≡ MissingSubcommand ∷ []
unfolding clap_on_literals
one_subcommand_is_needed = refl

pub help_is_asked : AsksHelp (codes "counter" ∷ codes "tst" ∷ codes "--help" ∷ [])
unfolding clap_on_literals
help_is_asked = inl (inl refl)

abbrev calibrate_words : Text → List Text
calibrate_words uncertainty =
    codes "counter" ∷ codes "calibrate" ∷ codes "--db" ∷ codes "a.db" ∷ codes "--reading=5" ∷ codes "--offset" ∷
    codes "250"
    ∷ codes "--behind" ∷ codes "--uncertainty" ∷ uncertainty ∷ []

pub calibrate_is_taken : AreTaken (calibrate_words (codes "1000000000000"))
unfolding clap_on_literals
calibrate_is_taken = (refl, refl)

pub offset_of_calibrate : option_map (λ p. one_of (codes "offset") p.1) (subcommand_of counter_command
    (calibrate_words (codes "0"))) ≡ Some (Some (codes "250"))
unfolding clap_on_literals
offset_of_calibrate = refl

pub uncertainty_is_bounded : fault_of counter_command (calibrate_words (codes "1000000000001")) ≡ ValueValidation ∷ []
unfolding clap_on_literals
uncertainty_is_bounded = refl

pub hold_is_taken : AreTaken (codes "counter" ∷ codes "hold" ∷ codes "--db=a.db" ∷ codes "--from=7" ∷ codes "--to=7"
    ∷ [])
unfolding clap_on_literals
hold_is_taken = (refl, refl)

pub init_needs_a_database : fault_of counter_command (codes "counter" ∷ codes "init" ∷ []) ≡ MissingRequiredArgument
    ∷ []
unfolding clap_on_literals
init_needs_a_database = refl

pub migrate_is_taken : AreTaken (codes "counter" ∷ codes "migrate" ∷ codes "--db=a.db" ∷ [])
unfolding clap_on_literals
migrate_is_taken = (refl, refl)

pub continue_is_taken : AreTaken (codes "counter" ∷ codes "continue" ∷ codes "--from=a.db" ∷ codes "--db=b.db" ∷ [])
unfolding clap_on_literals
continue_is_taken = (refl, refl)

abbrev continue_words : List Text → List Text
continue_words floor = codes "counter" ∷ codes "continue" ∷ codes "--from=a.db" ∷ codes "--db=b.db" ∷ floor

pub continue_above_is_taken : AreTaken (continue_words (codes "--above" ∷ codes "2000" ∷ codes "--moment=5" ∷ []))
unfolding clap_on_literals
continue_above_is_taken = (refl, refl)

pub above_of_continue : option_map (λ p. one_of (codes "above") p.1)
    (subcommand_of counter_command (continue_words (codes "--above" ∷ codes "2000" ∷ codes "--moment=5" ∷ [])))
    ≡ Some (Some (codes "2000"))
unfolding clap_on_literals
above_of_continue = refl

pub above_is_bounded : fault_of counter_command (continue_words (codes "--above=0" ∷ codes "--moment=5" ∷ []))
    ≡ ValueValidation ∷ []
unfolding clap_on_literals
above_is_bounded = refl

pub moment_of_continue_is_bounded : fault_of counter_command
    (continue_words (codes "--above=1" ∷ codes "--moment=253402300800000000" ∷ [])) ≡ ValueValidation ∷ []
unfolding clap_on_literals
moment_of_continue_is_bounded = refl

-- the words of `exchange` with these options for the signer
abbrev exchange_words : List Text → List Text
exchange_words signer =
    codes "counter" ∷ codes "exchange" ∷ codes "--db=a" ∷ codes "--rules=b" ∷ codes "--certificate=c" ∷ codes
    "--reading=5"
    ∷ signer

pub exchange_by_a_key_is_taken : AreTaken (exchange_words (codes "--signing-key=d" ∷ []))
unfolding clap_on_literals
exchange_by_a_key_is_taken = (refl, refl)

pub exchange_by_a_session_is_taken : AreTaken (exchange_words (codes "--signer=d" ∷ codes "--signer-algorithm=e" ∷ []))
unfolding clap_on_literals
exchange_by_a_session_is_taken = (refl, refl)

pub chain_is_taken : AreTaken (exchange_words (codes "--signing-key=d" ∷ codes "--chain=e" ∷ []))
unfolding clap_on_literals
chain_is_taken = (refl, refl)

pub chain_stands_once : fault_of counter_command (exchange_words (codes "--chain=e" ∷ codes "--chain=f" ∷ []))
    ≡ ArgumentConflict ∷ []
unfolding clap_on_literals
chain_stands_once = refl

pub no_signer_is_refused : MixSigners (exchange_words [])
unfolding clap_on_literals
no_signer_is_refused = (refl, refl)

pub key_and_session_are_refused : MixSigners (exchange_words (codes "--signing-key=d" ∷ codes "--signer=e" ∷ codes
    "--signer-algorithm=f" ∷ []))
unfolding clap_on_literals
key_and_session_are_refused = (refl, refl)

pub address_alone_is_refused : MixSigners (exchange_words (codes "--signer=d" ∷ []))
unfolding clap_on_literals
address_alone_is_refused = (refl, refl)

pub key_is_not_for_exchange : fault_of counter_command (exchange_words (codes "--signing-key=d" ∷ codes "--key=e" ∷ []))
    ≡ UnknownArgument ∷ []
unfolding clap_on_literals
key_is_not_for_exchange = refl

abbrev serve_words : Text → List Text
serve_words connections =
    codes "counter" ∷ codes "serve" ∷ codes "--db=a" ∷ codes "--rules=b" ∷ codes "--certificate=c"
    ∷ codes "--signing-key=d" ∷ codes "--listen=e" ∷ connections ∷ []

pub serve_is_taken : AreTaken (serve_words (codes "--connections=4294967295"))
unfolding clap_on_literals
serve_is_taken = (refl, refl)

pub serve_tells : AreTaken (serve_words (codes "--connections=0") ++ (codes "--tell" ∷ []))
unfolding clap_on_literals
serve_tells = (refl, refl)

pub telling_takes_no_value : fault_of counter_command (serve_words (codes "--connections=0") ++ (codes "--tell=true" ∷ []))
    ≡ TooManyValues ∷ []
unfolding clap_on_literals
telling_takes_no_value = refl

pub connections_are_bounded : fault_of counter_command (serve_words (codes "--connections=4294967296"))
    ≡ ValueValidation ∷ []
unfolding clap_on_literals
connections_are_bounded = refl

pub audit_is_taken : AreTaken (codes "counter" ∷ codes "audit" ∷ codes "--db=a" ∷ codes "--rules=b" ∷ codes
    "--account=c"
    ∷ codes "--from=0" ∷ codes "--to=9223372036854775807" ∷ codes "--check" ∷ [])
unfolding clap_on_literals
audit_is_taken = (refl, refl)

pub judging_is_taken : AreTaken (codes "counter" ∷ codes "audit" ∷ codes "--db=a" ∷ codes "--rules=b" ∷ codes
    "--account=c"
    ∷ codes "--from=0" ∷ codes "--to=5" ∷ codes "--judge" ∷ codes "--check" ∷ [])
unfolding clap_on_literals
judging_is_taken = (refl, refl)

abbrev explain_words : Text → List Text
explain_words serial =
    codes "counter" ∷ codes "explain" ∷ codes "--db=a" ∷ codes "--rules=b" ∷ codes "--serial" ∷ serial ∷ []

pub explain_is_taken : AreTaken (explain_words (codes "9223372036854775807"))
unfolding clap_on_literals
explain_is_taken = (refl, refl)

pub serials_of_explain_begin_at_one : fault_of counter_command (explain_words (codes "0")) ≡ ValueValidation ∷ []
unfolding clap_on_literals
serials_of_explain_begin_at_one = refl
