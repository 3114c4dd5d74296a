use Rattle.store.proofs.{AtNumber.hold_at, Calls.looks_up_as}
use Rattle.store.proofs.sequence.HoldNumbered.after.Goals as goal

pub returns : goal.returns
returns g c =
    looks_up_as g.S.Store _ _ _ _ _ (λ t found is b sound same. hold_at b c.args.count found (rw same at is))
    c.hold.ensures
