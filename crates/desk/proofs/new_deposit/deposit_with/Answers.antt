use Rattle.std.proofs.Common.{[], Ok, length, sym, subst, arith}
use Rattle.std.proofs.lemmas.Result.{err_from_is_err_and}
use Rattle.policy.specs.View.{account_view}
use Rattle.desk.specs.{Answers.answered, Calls.settings_view, Command.Deposit, Command.Refused}
use Rattle.desk.specs.{auxiliary.NewDeposit.IsUnused, Outcome.all_fine, Shown.deposited_as, CallContract.StepsBy}
use Rattle.desk.specs.{CallContract.with_signer, auxiliary.Obstacles.fault_with}
use Rattle.desk.specs.declared.obstacle.Obstacle.TheVariants as obstacle
use Rattle.desk.proofs.documents.KnownDeposits.{is_too_large, is_unsearched, unsearched, is_same, is_other, is_unused}
use Rattle.desk.proofs.documents.KnownDeposits.{is_after}
use Rattle.desk.proofs.calls.Wrapped.{call_ok, call_err}
use Rattle.desk.proofs.documents.NewDeposits.{is_few}
use Rattle.desk.proofs.new_deposit.deposit_with.Goals as goal

pub returns-then-bytes-gt-MOST-clause-step : goal.returns-then-bytes-gt-MOST-clause-step
returns-then-bytes-gt-MOST-clause-step g c = (
  all_fine (Ok []),
  is_too_large g.B.Standing g.X.Signer.signs g.X.Signer.fault_count c.args.signer.now (settings_view c.args.settings)
      (account_view c.args.submission.account.now) c.args.submission.reading c.args.submission.reference.now
      c.args.submission.bytes.now c.args.store.now
      (omega arith),
)

pub returns-in_err-number-clause-step : goal.returns-in_err-number-clause-step
returns-in_err-number-clause-step g c =
    let s = settings_view c.args.settings in
    let a = account_view c.args.submission.account.now in
    let refused = call_err obstacle.Searching c.find_known-known.result c.in_err-number.field-0.0
    c.in_err-number.ensures.cases in
    let told = err_from_is_err_and c.from_residual.result c.from_residual.ensures.1 in
    let f = refused.0 in (
      unsearched f,
      rw (told.1, told.2) (subst (λ x. StepsBy g.B.Standing (with_signer g.X.Signer.signs g.X.Signer.fault_count
          c.args.signer.now c.args.signer.now) s (Deposit a c.args.submission.reading c.args.submission.reference.now
          c.args.submission.bytes.now) (unsearched f) c.args.store.now c.find_known-known.new.store
          (Refused (fault_with x))) (sym refused.2)
          (is_unsearched g.B.Standing g.X.Signer.signs g.X.Signer.fault_count
          c.args.signer.now s a c.args.submission.reading c.args.submission.reference.now c.args.submission.bytes.now
          c.args.store.now c.find_known-known.new.store f (is_few (length c.args.submission.bytes.now) (omega arith))
          (rw refused.1 at c.find_known-known.ensures.refusals) c.find_known-known.ensures.looks
          (rw refused.1 at c.find_known-known.ensures.faults))),
    )

pub returns-in-Same-clause-step : goal.returns-in-Same-clause-step
returns-in-Same-clause-step g c =
    let found = call_ok obstacle.Searching c.find_known-known.result c.in_ok-number.field-0
    c.in_ok-number.ensures.cases in
    let s = settings_view c.args.settings in
    let a = account_view c.args.submission.account.now in
    let reading = c.args.submission.reading in
    let bytes = c.args.submission.bytes.now in
    let reference = c.args.submission.reference.now in (
      all_fine (Ok []),
      is_same g.B.Standing g.X.Signer.signs g.X.Signer.fault_count c.args.signer.now s a reading reference bytes
          c.args.store.now c.find_known-known.new.store c.as_str.result.now c.in_ok-number.field-0
          c.in-Same.number (is_few (length bytes) (omega arith)) c.find_known-known.ensures.looks
          (rw found at c.find_known-known.ensures.faults) c.as_str.ensures.value c.in-Same.is
          (λ honest b st. rw found at (c.find_known-known.ensures.value honest b st)),
    )

pub returns-in-Other-clause-step : goal.returns-in-Other-clause-step
returns-in-Other-clause-step g c =
    let found = call_ok obstacle.Searching c.find_known-known.result c.in_ok-number.field-0
    c.in_ok-number.ensures.cases in
    let s = settings_view c.args.settings in
    let a = account_view c.args.submission.account.now in
    let reading = c.args.submission.reading in
    let bytes = c.args.submission.bytes.now in
    let reference = c.args.submission.reference.now in (
      all_fine (Ok []),
      is_other g.B.Standing g.X.Signer.signs g.X.Signer.fault_count c.args.signer.now s a reading reference bytes
          c.args.store.now c.find_known-known.new.store c.as_str.result.now c.in_ok-number.field-0
          (is_few (length bytes) (omega arith)) c.find_known-known.ensures.looks
          (rw found at c.find_known-known.ensures.faults) c.as_str.ensures.value c.in-Other.is
          (λ honest b st. rw found at (c.find_known-known.ensures.value honest b st)),
    )

pub returns-in-Nothing-clause-step : goal.returns-in-Nothing-clause-step
returns-in-Nothing-clause-step g c =
    let found = call_ok obstacle.Searching c.find_known-known.result c.in_ok-number.field-0
    c.in_ok-number.ensures.cases in
    let s = settings_view c.args.settings in
    let a = account_view c.args.submission.account.now in
    let reading = c.args.submission.reading in
    let bytes = c.args.submission.bytes.now in
    let reference = c.args.submission.reference.now in
    let t = with_signer g.X.Signer.signs g.X.Signer.fault_count c.args.signer.now c.deposit_new.new.signer in
    let said = answered deposited_as c.deposit_new.result in
    let done = c.deposit_new.ensures.step in (
      done.0,
      is_after g.B.Standing t s (Deposit a reading reference bytes) (IsUnused a reference) done.0
          c.args.store.now c.find_known-known.new.store c.deposit_new.new.store said c.find_known-known.ensures.looks
          (rw found at c.find_known-known.ensures.faults)
          (λ honest b st. is_unused a bytes reference b c.as_str.result.now c.in_ok-number.field-0
          c.as_str.ensures.value c.in-Nothing.is (rw found at (c.find_known-known.ensures.value honest b st)))
          c.deposit_new.ensures.honest done.1,
    )
