use Rattle.store.proofs.{Words.subst, ClosedStores.copied_of}
use Rattle.store.specs.Files.{HasClosed}
use Rattle.store.proofs.connection.Store+FileStore+D.close.Goals as goal

pub returns-clause-copied : goal.returns-clause-copied
returns-clause-copied g c = copied_of _ _ c.into_connection.ensures.same _ c.close.ensures.closed

pub returns-clause-closed : goal.returns-clause-closed
returns-clause-closed g c =
    subst (λ conn. HasClosed conn c.close.result) c.into_connection.ensures.same c.close.ensures.closed
