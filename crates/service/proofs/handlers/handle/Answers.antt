use Rattle.std.proofs.Common.{Err, refl}
use Rattle.service.proofs.HandledLemmas.{handled, refused}
use Rattle.service.proofs.handlers.handle.Goals as goal

pub returns-in-Ok-clause-served : goal.returns-in-Ok-clause-served
returns-in-Ok-clause-served g c =
    handled _ _ _ _ _ _ _ _ _ _ _ _ _ _ (rw c.policy.ensures at c.in-Ok.ensures) c.answer.ensures.served

pub returns-in-Err-clause-served : goal.returns-in-Err-clause-served
returns-in-Err-clause-served g c =
    handled _ _ _ _ _ _ _ _ _ _ _ _ _ (Err c.in-Err.refusal) (rw c.policy.ensures at c.in-Err.ensures)
    (refused _ _ _ _ _ _ _ _ _ _ _ _ c.in-Err.refusal refl refl c.refuse.ensures.sent)
