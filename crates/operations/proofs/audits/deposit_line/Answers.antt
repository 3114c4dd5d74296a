use Rattle.std.proofs.{Common.◌∙◌, Common.append_assoc, Common.append-nil, lemmas.Result.IfOk-weaker}
use Rattle.operations.proofs.audits.deposit_line.Goals as goal

pub returns : goal.returns
returns c =
    rw c.if-passes.false
    (IfOk-weaker c.format.result _ _ (λ text is. is ∙ simp (append_assoc, append-nil)) c.format.ensures.ok)
