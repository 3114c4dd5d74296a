use Rattle.std.proofs.Common.{inl, inr, refl, rules, SFits, to_z-of_z, w64}
use Rattle.policy.specs.View.{account_view}
use Rattle.book.specs.Values.{calibration_view, hold_view}
use Rattle.desk.specs.{Answers.answered, Answers.entered, Answers.reply_as, Batches.stamp_for, Command.Calibrate}
use Rattle.desk.specs.{Command.Deposit, Command.Hold, Shown.deposited_as, Together.question_view}
use Rattle.service.specs.{Requests.OfAccount, Requests.Status, Views.added_answer}
use Rattle.service.proofs.HandledLemmas.{extracted, reported, told, told_plainly}
use Rattle.service.proofs.Operators.{calibration_told, hold_told}
use Rattle.service.proofs.handlers.answer.Goals as goal

pub returns-in-Stamp-clause-served : goal.returns-in-Stamp-clause-served
returns-in-Stamp-clause-served g c =
    let question = question_view c.in-Stamp.asked in
    let fits : SFits w64 question.reading = search rules in
    rw c.in-Stamp.is (told_plainly _ _ _ _ _ _ _ _ _ _ _ _ (stamp_for question) (reply_as c.answer-reply.result)
    (rw (to_z-of_z fits) at c.answer-reply.ensures.step, c.answer-reply.ensures.unasked)
    (c.write_reply.ensures.sent (stamp_for question)))

pub returns-in-Keep-clause-served : goal.returns-in-Keep-clause-served
returns-in-Keep-clause-served g c =
    let reading = c.args.context.now.at.reading in
    let fits : SFits w64 reading = search rules in
    let command =
    Deposit (account_view c.in-Keep.account.now) reading c.in-Keep.reference.now c.args.context.now.body.now in
    rw c.in-Keep.is (told_plainly _ _ _ _ _ _ _ _ _ _ _ _ command (answered deposited_as c.deposit-outcome.result)
    (rw (to_z-of_z fits) at c.deposit-outcome.ensures.step) (c.write_deposited.ensures.sent command))

pub returns-in-List-clause-served : goal.returns-in-List-clause-served
returns-in-List-clause-served g c = rw c.in-List.is c.list.ensures.served

pub returns-in-Deposit-clause-served : goal.returns-in-Deposit-clause-served
returns-in-Deposit-clause-served g c = rw c.in-Deposit.is c.answer.ensures.served

pub returns-in-Extract-clause-served : goal.returns-in-Extract-clause-served
returns-in-Extract-clause-served g c =
    rw c.in-Extract.is
    (extracted _ _ _ _ _ _ _ _ _ _ _ _ (account_view c.in-Extract.account.now) c.in-Extract.from c.in-Extract.to
    c.serve_extract.ensures.looks
    refl (rw c.policy-policy.ensures at c.serve_extract.ensures.served))

pub returns-in-Extract-clause-failed : goal.returns-in-Extract-clause-failed
returns-in-Extract-clause-failed g c =
    rw c.in-Extract.is (elim c.serve_extract.ensures.failed [
      | inl tells ↦ inl tells
      | inr told ↦ inr (rw c.policy-policy.ensures at told.0, told.1)
    ])

pub returns-in-Calibrate-clause-served : goal.returns-in-Calibrate-clause-served
returns-in-Calibrate-clause-served g c =
    let value = calibration_view c.in-Calibrate.calibration in
    let outcome = c.calibrate-outcome.result in
    rw c.in-Calibrate.is
    (told _ _ _ _ _ _ _ _ _ _ _ _ (Calibrate value) (entered outcome) (added_answer outcome)
    (c.calibrate-outcome.ensures.step, refl)
    (calibration_told _ _ _ _ _ value outcome c.calibrate-outcome.ensures.backwards) c.write_added.ensures.sent)

pub returns-in-Hold-clause-served : goal.returns-in-Hold-clause-served
returns-in-Hold-clause-served g c =
    let value = hold_view c.in-Hold.hold in
    let outcome = c.hold-outcome.result in
    rw c.in-Hold.is
    (told _ _ _ _ _ _ _ _ _ _ _ _ (Hold value) (entered outcome) (added_answer outcome) (
      c.hold-outcome.ensures.step,
      refl,
    )
    (hold_told _ _ _ _ _ value outcome c.hold-outcome.ensures.refusals) c.write_added-in-Hold.ensures.sent)

pub returns-in-Status-clause-served : goal.returns-in-Status-clause-served
returns-in-Status-clause-served g c =
    rw c.in-Status.is
    (reported _ _ _ _ _ _ _ _ _ _ _ _ Status c.args.context.now.octets c.serve_status.ensures.looks refl
    (rw c.faults-faults.ensures at c.serve_status.ensures.served))

pub returns-in-Account-clause-served : goal.returns-in-Account-clause-served
returns-in-Account-clause-served g c =
    rw c.in-Account.is
    (reported _ _ _ _ _ _ _ _ _ _ _ _ (OfAccount (account_view c.in-Account.account.now)) c.args.context.now.octets
    c.serve_account.ensures.looks refl (c.serve_account.ensures.served (g.G.Signer.fault_count c.args.signer.now)))
