use Rattle.std.proofs.{Common.◌∙◌, Common.append_assoc, Common.append-nil, lemmas.Result.IfOk-weaker}
use Rattle.operations.proofs.audits.judged_line.Goals as goal

pub returns : goal.returns
returns c =
    rw (c.told.ensures c.args.serial, c.in-Some.is)
    (IfOk-weaker c.format.result _ _ (λ text is. is ∙ simp (append_assoc, append-nil)) c.format.ensures.ok)
