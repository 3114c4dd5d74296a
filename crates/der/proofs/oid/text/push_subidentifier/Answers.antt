use Rattle.der.proofs.OidTexts.{subidentifier_ends}
use Rattle.der.proofs.oid.text.push_subidentifier.Goals as goal

pub returns : goal.returns
returns c = subidentifier_ends _ _ _ c.args.subidentifier c.in_ok-push_continued.ensures c.in_ok-push.ensures.items
