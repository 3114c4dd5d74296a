use Rattle.der.proofs.OidContents.{same_answer}
use Rattle.der.proofs.oid.OidPartialEq.eq.Goals as goal

pub returns : goal.returns
returns c = same_answer _ _ _ _ _ c.content.ensures.encoded c.content-2.ensures.encoded c.eq.ensures
