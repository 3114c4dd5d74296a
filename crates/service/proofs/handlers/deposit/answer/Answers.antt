use Rattle.std.proofs.Common.{refl}
use Rattle.policy.specs.View.{account_view}
use Rattle.book.specs.Entries.{reader_view}
use Rattle.desk.specs.Shown.{done_as, shown_as}
use Rattle.desk.specs.{Answers.answered, Asked.right_command, Command.Show, Command.Token}
use Rattle.service.specs.Requests.{OfReaders}
use Rattle.service.proofs.HandledLemmas.{reported, right_steps, told_plainly}
use Rattle.service.proofs.handlers.deposit.answer.Goals as goal

pub returns-in-Show-clause-served : goal.returns-in-Show-clause-served
returns-in-Show-clause-served g c =
    let command = Show (account_view c.args.account.now) c.args.number in
    rw c.in-Show.is (told_plainly _ _ _ _ _ _ _ _ _ _ _ _ command (answered shown_as c.show-shown.result)
    (c.show-shown.ensures.step, refl)
    (c.write_shown.ensures.sent command refl))

pub returns-in-Token-clause-served : goal.returns-in-Token-clause-served
returns-in-Token-clause-served g c =
    let command = Token (account_view c.args.account.now) c.args.number in
    rw c.in-Token.is (told_plainly _ _ _ _ _ _ _ _ _ _ _ _ command (answered shown_as c.token_of-shown.result)
    (c.token_of-shown.ensures.step, refl) (c.write_shown-in-Token.ensures.sent command refl))

pub returns-in-Readers-clause-served : goal.returns-in-Readers-clause-served
returns-in-Readers-clause-served g c =
    rw c.in-Readers.is
    (reported _ _ _ _ _ _ _ _ _ _ _ _ (OfReaders (account_view c.args.account.now) c.args.number)
    c.args.context.now.octets
    c.serve_readers.ensures.looks refl (c.serve_readers.ensures.served (g.G.Signer.fault_count c.args._signer.now)))

pub returns-in-Right-clause-served : goal.returns-in-Right-clause-served
returns-in-Right-clause-served g c =
    let account = account_view c.args.account.now in
    let reader = reader_view c.named.result in
    let command = right_command c.in-Right.change account c.args.number reader in
    let reply = answered done_as c.change_right-outcome.result in
    rw (c.in-Right.is, ← c.segment-name.ensures, ← c.named.ensures)
    (told_plainly _ _ _ _ _ _ _ _ _ _ _ _ command reply
    (right_steps _ g.G.Signer.signs g.G.Signer.fault_count _ _ c.args._signer.now c.in-Right.change account
    c.args.number reader reply c.change_right-outcome.ensures.step)
    (c.write_done.ensures.sent command))
