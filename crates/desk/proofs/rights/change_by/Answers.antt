use Rattle.std.proofs.{Common.subst, lemmas.Result.err_from_is_err_and}
use Rattle.policy.specs.View.{account_view}
use Rattle.book.specs.Entries.{reader_view}
use Rattle.desk.specs.{Calls.settings_view, auxiliary.Obstacles.MayName, auxiliary.Obstacles.MayNot}
use Rattle.desk.specs.declared.obstacle.Obstacle.TheVariants as obstacle
use Rattle.desk.proofs.{documents.Grants.right_denied, documents.Grants.right_told, calls.Wrapped.wrapped_is}
use Rattle.desk.proofs.rights.change_by.Goals as goal

pub returns-in_err-may_name-clause-step : goal.returns-in_err-may_name-clause-step
returns-in_err-may_name-clause-step g c =
    let s = settings_view c.args.settings in
    let reader = reader_view c.args.reader in
    let x = c.in_err-may_name.field-0.0 in
    let refused = c.in_err-may_name.ensures in
    let told = err_from_is_err_and c.from_residual.result c.from_residual.ensures.1 in
    rw (told.1, told.2) (right_denied g.B.Standing s (account_view c.args.account.now) c.args.number reader
    c.args.change c.args.store.now c.may_name.new.store c.may_name.new.store x refused.refusals refused.looks
    refused.counted
    (λ honest b st. subst (λ k. MayNot s.file k reader c.args.number b x) c.as_str.ensures.value
    (refused.may honest b st)))

pub returns-clause-step : goal.returns-clause-step
returns-clause-step g c =
    let s = settings_view c.args.settings in
    let reader = reader_view c.args.reader in
    let may = c.in_ok-may_name.ensures in
    rw (wrapped_is obstacle.Adding c.append.result c.map_err.result c.map_err.ensures.cases)
    (right_told g.B.Standing s (account_view c.args.account.now) c.args.number reader c.args.change c.args.store.now
    c.may_name.new.store c.append.new.self c.append.result (record {
      looks = may.looks;
      uncounted = may.counted;
      may = λ honest b st. subst (λ k. MayName s.file k reader c.args.number b) c.as_str.ensures.value
          (may.may honest b st);
    }) c.append.ensures.refusals (rw c.entry.ensures at c.append.ensures.appends))
