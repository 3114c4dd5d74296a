use Rattle.tables.proofs.{Words.sym, Words.◌∙◌, EachLemmas.filled_each, EachLemmas.filled_none}
use Rattle.tables.proofs.creation.make_filled.Goals as goal

pub returns-then-is_empty-clause-filled : goal.returns-then-is_empty-clause-filled
returns-then-is_empty-clause-filled g c =
    filled_none c.args.entries.now _ _ (sym c.is_empty.ensures ∙ c.if-is_empty.true) c.in-Ok.ensures.carries

pub returns-in-Ok-make_each-clause-filled : goal.returns-in-Ok-make_each-clause-filled
returns-in-Ok-make_each-clause-filled g c =
    filled_each c.args.entries.now _ _ _ c.in-Ok.ensures.carries c.in-Ok-make_each.ensures.carries
