-- What the words ask for: what each subcommand's options state. `clap` says which words a command takes, and what it
-- finds in them.
use Rattle.std.specs.Prelude.{◌≡◌, ◌≢◌, ◌⊎◌, ◌&&◌, ◌||◌, ⊤, ℕ, Bool, true, false, not, List, [], Option, Some, None}
use Rattle.std.specs.Prelude.{codes, is_some, option_map, map, String, string_bytes}
use Rattle.std.specs.Str.Parse.{IsNumeral, digits_value, without_leading_plus}
use Rattle.std.specs.{declared.alloc.Global.Global, Option.option_map_or, Str.bytes_eq}
use Rattle.clap.specs.Words.{IsAmong, Row, Text, fault_of, first_of, one_of, subcommand_of}
use Rattle.clap.specs.declared.error.kind.ErrorKind.{ErrorKind}
use Rattle.clap.specs.declared.error.kind.ErrorKind.TheVariants.{ArgumentConflict, DisplayHelp, DisplayVersion}
use Rattle.clap.specs.declared.error.kind.ErrorKind.TheVariants.{MissingRequiredArgument, OutOfMemory}
use Rattle.command_line.specs.declared.refusal.WordsRefusal.TheVariants.{Help, Mistake, Memory}
use Rattle.command_line.specs.declared.words.SignerWords.TheVariants.{Key, Session}
use Rattle.command_line.specs.declared.words.Word.TheVariants.{Tst, Check, Init, Migrate, Continue, Calibrate, Hold}
use Rattle.command_line.specs.declared.words.Word.TheVariants.{Answer, Exchange, Serve, Audit, Explain}
use Rattle.command_line.specs.{Options.counter_command, declared.refusal.WordsRefusal.WordsRefusal}
use Rattle.command_line.specs.{declared.words.AnswerWords.AnswerWords, declared.words.AuditWords.AuditWords}
use Rattle.command_line.specs.{declared.words.CalibrateWords.CalibrateWords, declared.words.CheckWords.CheckWords}
use Rattle.command_line.specs.{declared.words.ContinueWords.ContinueWords, declared.words.DeskWords.DeskWords}
use Rattle.command_line.specs.{declared.words.ExchangeWords.ExchangeWords, declared.words.ExplainWords.ExplainWords}
use Rattle.command_line.specs.{declared.words.FloorWords.FloorWords, declared.words.HoldWords.HoldWords}
use Rattle.command_line.specs.{declared.words.InitWords.InitWords, declared.words.MigrateWords.MigrateWords}
use Rattle.command_line.specs.{declared.words.ServeWords.ServeWords, declared.words.SignerWords.SignerWords}
use Rattle.command_line.specs.{declared.words.TstWords.TstWords, declared.words.Word.Word}

-- the octets of each word
abbrev pub texts_of : List (String Global) → List Text
texts_of words = map string_bytes words

-- the option's value is the number in decimal digits, before which a plus may stand; a minus, which `clap` takes before
-- a zero alone, doesn't come into its row
pub record StatesNumber (rows : List Row) (name : Text) (number : ℕ) : Type 0 where
  pub text : Text
  pub given : one_of name rows ≡ Some text
  pub numeral : IsNumeral 10 (without_leading_plus text)
  pub value : number ≡ digits_value 10 (without_leading_plus text)

-- the flag is there or not
pub record StatesFlag (rows : List Row) (name : Text) (flag : Bool) : Type 0 where
  pub absent : one_of name rows ≡ None → flag ≡ false
  pub given : one_of name rows ≡ Some (codes "true") → flag ≡ true
  pub default : one_of name rows ≡ Some (codes "false") → flag ≡ false

pub record StatesTst (rows : List Row) (words : TstWords) : Type 0 where
  pub policy : first_of (codes "policy") rows ≡ Some words.policy.now
  pub moment : StatesNumber rows (codes "moment") words.moment
  pub digits : StatesNumber rows (codes "digits") words.digits
  pub serial : StatesNumber rows (codes "serial") words.serial
  pub accuracy : StatesNumber rows (codes "accuracy") words.accuracy
  pub ordering : StatesFlag rows (codes "ordering") words.ordering

pub record StatesCheck (rows : List Row) (words : CheckWords) : Type 0 where
  pub rules : first_of (codes "rules") rows ≡ Some words.rules.now

pub record StatesInit (rows : List Row) (words : InitWords) : Type 0 where
  pub db : first_of (codes "db") rows ≡ Some words.db.now

pub record StatesMigrate (rows : List Row) (words : MigrateWords) : Type 0 where
  pub db : first_of (codes "db") rows ≡ Some words.db.now

-- what later stamps come after: both options are there, or none of them
abbrev pub StatesFloor : List Row → Option FloorWords → Type 0
StatesFloor rows None = (first_of (codes "above") rows ≡ None) × (first_of (codes "moment") rows ≡ None)
StatesFloor rows (Some words) =
    StatesNumber rows (codes "above") words.above × StatesNumber rows (codes "moment") words.moment

pub record StatesContinue (rows : List Row) (words : ContinueWords) : Type 0 where
  pub from : first_of (codes "from") rows ≡ Some words.from.now
  pub db : first_of (codes "db") rows ≡ Some words.db.now
  pub floor : StatesFloor rows words.floor

pub record StatesCalibrate (rows : List Row) (words : CalibrateWords) : Type 0 where
  pub db : first_of (codes "db") rows ≡ Some words.db.now
  pub reading : StatesNumber rows (codes "reading") words.reading
  pub offset : StatesNumber rows (codes "offset") words.offset
  pub behind : StatesFlag rows (codes "behind") words.behind
  pub uncertainty : StatesNumber rows (codes "uncertainty") words.uncertainty

pub record StatesHold (rows : List Row) (words : HoldWords) : Type 0 where
  pub db : first_of (codes "db") rows ≡ Some words.db.now
  pub from : StatesNumber rows (codes "from") words.from
  pub to : StatesNumber rows (codes "to") words.to

-- the values of `--signing-key`, `--signer` and `--signer-algorithm`
abbrev pub key_stated : List Row → Option Text
key_stated = first_of (codes "signing-key")

abbrev pub address_stated : List Row → Option Text
address_stated = first_of (codes "signer")

abbrev pub algorithm_stated : List Row → Option Text
algorithm_stated = first_of (codes "signer-algorithm")

-- who signs: a key is there and nothing of a session, or all of a session and no key
abbrev pub StatesSigner : List Row → SignerWords → Type 0
StatesSigner rows (Key path) =
    (key_stated rows ≡ Some path.now) × (address_stated rows ≡ None) × (algorithm_stated rows ≡ None)
StatesSigner rows (Session address algorithm) =
    (key_stated rows ≡ None)
    × (address_stated rows ≡ Some address.now)
    × (algorithm_stated rows ≡ Some algorithm.now)

pub record StatesDesk (rows : List Row) (words : DeskWords) : Type 0 where
  pub db : first_of (codes "db") rows ≡ Some words.db.now
  pub rules : first_of (codes "rules") rows ≡ Some words.rules.now
  pub certificate : first_of (codes "certificate") rows ≡ Some words.certificate.now
  pub chain : first_of (codes "chain") rows ≡ option_map (λ s. s.now) words.chain
  pub signer : StatesSigner rows words.signer

pub record StatesAnswer (rows : List Row) (words : AnswerWords) : Type 0 where
  pub desk : StatesDesk rows words.desk
  pub reading : StatesNumber rows (codes "reading") words.reading
  pub key : first_of (codes "key") rows ≡ option_map (λ s. s.now) words.key

pub record StatesExchange (rows : List Row) (words : ExchangeWords) : Type 0 where
  pub desk : StatesDesk rows words.desk
  pub reading : StatesNumber rows (codes "reading") words.reading

pub record StatesServe (rows : List Row) (words : ServeWords) : Type 0 where
  pub desk : StatesDesk rows words.desk
  pub listen : first_of (codes "listen") rows ≡ Some words.listen.now
  pub connections : StatesNumber rows (codes "connections") words.connections
  pub tell : StatesFlag rows (codes "tell") words.tell

pub record StatesAudit (rows : List Row) (words : AuditWords) : Type 0 where
  pub db : first_of (codes "db") rows ≡ Some words.db.now
  pub rules : first_of (codes "rules") rows ≡ Some words.rules.now
  pub account : first_of (codes "account") rows ≡ Some words.account.now
  pub from : StatesNumber rows (codes "from") words.from
  pub to : StatesNumber rows (codes "to") words.to
  pub check : StatesFlag rows (codes "check") words.check
  pub judge : StatesFlag rows (codes "judge") words.judge

pub record StatesExplain (rows : List Row) (words : ExplainWords) : Type 0 where
  pub db : first_of (codes "db") rows ≡ Some words.db.now
  pub rules : first_of (codes "rules") rows ≡ Some words.rules.now
  pub serial : StatesNumber rows (codes "serial") words.serial

-- the subcommand of this name, and what was found for its options, is what is asked
abbrev pub IsAsked : Text → List Row → Word → Type 0
IsAsked name rows (Tst words) = (name ≡ codes "tst") × StatesTst rows words
IsAsked name rows (Check words) = (name ≡ codes "check") × StatesCheck rows words
IsAsked name rows (Init words) = (name ≡ codes "init") × StatesInit rows words
IsAsked name rows (Migrate words) = (name ≡ codes "migrate") × StatesMigrate rows words
IsAsked name rows (Continue words) = (name ≡ codes "continue") × StatesContinue rows words
IsAsked name rows (Calibrate words) = (name ≡ codes "calibrate") × StatesCalibrate rows words
IsAsked name rows (Hold words) = (name ≡ codes "hold") × StatesHold rows words
IsAsked name rows (Answer words) = (name ≡ codes "answer") × StatesAnswer rows words
IsAsked name rows (Exchange words) = (name ≡ codes "exchange") × StatesExchange rows words
IsAsked name rows (Serve words) = (name ≡ codes "serve") × StatesServe rows words
IsAsked name rows (Audit words) = (name ≡ codes "audit") × StatesAudit rows words
IsAsked name rows (Explain words) = (name ≡ codes "explain") × StatesExplain rows words

-- no word of this name is what these options state
abbrev pub IsUnasked : Text → List Row → Type 0
IsUnasked name rows = (word : Word) → IsAsked name rows word → ⊥

-- whether a key, an address and an algorithm tell one signer: the first alone does, or the other two
abbrev pub tells_one_signer : Bool → Bool → Bool → Bool
tells_one_signer key address algorithm =
    (key && (not address && not algorithm)) || (not key && (address && algorithm))

abbrev pub has_one_signer : List Row → Bool
has_one_signer rows =
    tells_one_signer (is_some (key_stated rows)) (is_some (address_stated rows)) (is_some (algorithm_stated rows))

-- the subcommands that need a signer
abbrev pub needs_signer : Text → Bool
needs_signer name =
    bytes_eq name (codes "answer") || (bytes_eq name (codes "exchange") || bytes_eq name (codes "serve"))

-- the subcommand needs a signer, and its options tell none or mix two up
abbrev pub mixes_signers : Option (Text × List Row) → Bool
mixes_signers found = option_map_or (λ p. needs_signer p.0 && not (has_one_signer p.1)) found false

-- `clap` finds no fault with the words, of which the first is the program's name.
abbrev pub AreWellFormed : List Text → Type 0
AreWellFormed texts = fault_of counter_command texts ≡ []

-- There is no fault in the words: `clap` finds none, and where a signer is needed they tell one.
abbrev pub AreTaken : List Text → Type 0
AreTaken texts = AreWellFormed texts × (mixes_signers (subcommand_of counter_command texts) ≡ false)

-- The only fault in the words is that they tell no signer where one is needed, or mix two up.
abbrev pub MixSigners : List Text → Type 0
MixSigners texts = AreWellFormed texts × (mixes_signers (subcommand_of counter_command texts) ≡ true)

-- the words are taken, and ask for this
pub record Asks (texts : List Text) (word : Word) : Type 0 where
  pub taken : AreTaken texts
  pub name : Text
  pub rows : List Row
  pub found : subcommand_of counter_command texts ≡ Some (name, rows)
  pub asked : IsAsked name rows word

-- that they ask for help is what `clap` may say of the words
abbrev pub AsksHelp : List Text → Type 0
AsksHelp texts =
    IsAmong DisplayHelp (fault_of counter_command texts)
    ⊎ IsAmong DisplayVersion (fault_of counter_command texts)

-- the words are taken, and ask for nothing
abbrev pub AskNothing : List Text → Type 0
AskNothing texts = AreTaken texts × ((word : Word) → Asks texts word → ⊥)

-- The words have a fault other than that they ask for help, by what `clap` may say of them or in their signer; or they
-- ask for nothing.
abbrev pub AreRefused : List Text → Type 0
AreRefused texts =
    ((kind : ErrorKind)
    × IsAmong kind (fault_of counter_command texts)
    × (kind ≢ DisplayHelp)
    × (kind ≢ DisplayVersion))
    ⊎ (MixSigners texts ⊎ AskNothing texts)

-- the kinds that errors of this crate's own have
abbrev pub IsOwnKind : ErrorKind → Type 0
IsOwnKind kind = (kind ≡ MissingRequiredArgument) ⊎ (kind ≡ ArgumentConflict)

-- the words ask for help, or aren't understood; of want of memory nothing is said
abbrev pub IsRefusal : List Text → WordsRefusal → Type 0
IsRefusal texts (Help text) = AsksHelp texts
IsRefusal texts (Mistake text) = AreRefused texts
IsRefusal texts Memory = ⊤

-- what becomes of `clap`'s error by its kind
abbrev pub IsShown : ErrorKind → WordsRefusal → Type 0
IsShown kind (Help text) = (kind ≡ DisplayHelp) ⊎ (kind ≡ DisplayVersion)
IsShown kind (Mistake text) = (kind ≢ DisplayHelp) × (kind ≢ DisplayVersion) × (kind ≢ OutOfMemory)
IsShown kind Memory = ⊤
