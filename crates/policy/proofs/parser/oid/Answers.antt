use Rattle.policy.proofs.KindsRead.{oid_in-read}
use Rattle.policy.proofs.parser.oid.Goals as goal

-- the text is an object identifier's
pub returns-in-Ok : goal.returns-in-Ok
returns-in-Ok c = oid_in-read _ _ _ _ c.in-Some.ensures c.in-Ok.ensures.found.0 c.in-Ok.ensures.found.1
