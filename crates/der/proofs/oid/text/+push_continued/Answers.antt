use Rattle.der.proofs.OidTexts.{continued_more}
use Rattle.der.proofs.oid.text.+push_continued.Goals as goal

pub returns-in_ok-push : goal.returns-in_ok-push
returns-in_ok-push t c = continued_more _ _ _ c.args.number c.if-number-gt0.true c.in_ok-push_continued.ensures
    c.in_ok-push.ensures.items
