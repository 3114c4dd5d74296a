use Rattle.std.proofs.{Common.◌∙◌, Common.append_assoc, lemmas.Result.IfOk-weaker}
use Rattle.service.proofs.lists.line_front.Goals as goal

pub returns : goal.returns
returns c = IfOk-weaker c.format.result _ _ (λ text is. is ∙ simp append_assoc) c.format.ensures.ok
