use Rattle.store.proofs.{AtNumber.identity_at, Calls.looks_up_as}
use Rattle.store.proofs.sequence.IdentityRowNumbered.after.Goals as goal

pub returns : goal.returns
returns g c =
    looks_up_as g.S.Store _ _ _ _ _
    (λ t found is b sound same. identity_at b c.args.count found sound (rw same at is)) c.identity.ensures
