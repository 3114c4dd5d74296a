-- Which command of the machine a command of the program is, and which answer its answer is.
use Rattle.std.specs.Prelude.{ℕ, List, map}
use Rattle.policy.specs.{Record.AccountValue, View.account_view}
use Rattle.decide.specs.View.{account_asked}
use Rattle.book.specs.History.{Entry, Granted, Revoked}
use Rattle.book.specs.{Entries.reader_view, Readers.Reader, Values.calibration_view, Values.hold_view}
use Rattle.desk.specs.Command as machine
use Rattle.desk.specs.Shown.{deposited_as, shown_as, listed_as}
use Rattle.desk.specs.declared.rights.Change.TheVariants.{Give, Take}
use Rattle.desk.specs.{Answers.reply_as, Calls.in_force_of, declared.commands.Command.Command}
use Rattle.desk.specs.{declared.commands.Answer.Answer, declared.rights.Change.Change}
use Rattle.desk.specs.declared.commands.Command.TheVariants as command
use Rattle.desk.specs.declared.commands.Answer.TheVariants as answer

-- the command that gives or takes a right, and the entry that it adds
abbrev pub right_command : Change → AccountValue → ℕ → Reader → machine.Command
right_command Give account number reader = machine.Grant account number reader
right_command Take account number reader = machine.Revoke account number reader

abbrev pub right_entry : Change → ℕ → Reader → Entry
right_entry Give number reader = Granted number reader
right_entry Take number reader = Revoked number reader

abbrev pub command_view : Command → machine.Command
command_view (command.Stamp account reading query) = machine.Stamp (account_asked account) reading query.now
command_view (command.Deposit account reading reference bytes) =
    machine.Deposit (account_view account.now) reading reference.now bytes.now
command_view (command.Show account number) = machine.Show (account_view account.now) number
command_view (command.Token account number) = machine.Token (account_view account.now) number
command_view (command.List account) = machine.ListAll (account_view account.now)
command_view (command.Grant account number reader) =
    machine.Grant (account_view account.now) number (reader_view reader)
command_view (command.Revoke account number reader) =
    machine.Revoke (account_view account.now) number (reader_view reader)
command_view (command.Calibrate calibration) = machine.Calibrate (calibration_view calibration)
command_view (command.Hold hold) = machine.Hold (hold_view hold)
command_view (command.Succeed identity algorithm) = machine.Succeed (in_force_of identity.now algorithm.now)

abbrev pub answer_view : Answer → machine.Answer
answer_view (answer.Stamped reply) = reply_as reply
answer_view (answer.Kept deposited) = deposited_as deposited
answer_view (answer.Shown octets) = shown_as octets
answer_view (answer.Listed rows) = listed_as rows
answer_view answer.Done = machine.Done
answer_view (answer.Numbered number) = machine.Numbered number
answer_view (answer.Refused fault) = machine.Refused fault

abbrev pub commands_view : List Command → List machine.Command
commands_view commands = map command_view commands

abbrev pub answers_view : List Answer → List machine.Answer
answers_view answers = map answer_view answers
