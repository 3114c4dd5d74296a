use Rattle.store.proofs.{Calls.no_answer, LabelRows.next_at}
use Rattle.store.proofs.store.Store.next_owned.Goals as goal

pub returns-clause-value : goal.returns-clause-value
returns-clause-value g c honest b s owned =
    let found = c.in_ok-place.ensures.place in
    next_at b c.args.account.now _ _ _ (c.in_ok-place.ensures.value honest b s owned) found.0 found.1 c.index.ensures
    c.args.after _ c.number_after.ensures

pub returns-in_err-place-clause-value : goal.returns-in_err-place-clause-value
returns-in_err-place-clause-value g c honest b s owned = no_answer _ _ c.from_residual.ensures.0
