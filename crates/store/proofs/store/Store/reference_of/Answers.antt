use Rattle.store.proofs.{Calls.no_answer, LabelRows.reference_at}
use Rattle.store.proofs.store.Store.reference_of.Goals as goal

pub returns-in-Ok-clause-value : goal.returns-in-Ok-clause-value
returns-in-Ok-clause-value g c honest b s owned =
    let found = c.in_ok-place.ensures.place in
    reference_at b c.args.owner.now _ _ _ (c.in_ok-place.ensures.value honest b s owned) found.0 found.1
    c.index.ensures c.args.number _ c.in-Ok.ensures.value

pub returns-in_err-place-clause-value : goal.returns-in_err-place-clause-value
returns-in_err-place-clause-value g c honest b s owned = no_answer _ _ c.from_residual.ensures.0
