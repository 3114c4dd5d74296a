use Rattle.store.proofs.{Words.refl, Words.sym, Words.◌∙◌, Migration.told_not_ours}
use Rattle.store.proofs.path.opening_fault.Goals as goal

pub returns-clause-none : goal.returns-clause-none
returns-clause-none c is = c.of.ensures.none refl (told_not_ours c.of.result (sym c.from.ensures ∙ is))
