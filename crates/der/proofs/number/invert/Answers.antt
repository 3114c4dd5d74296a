use Rattle.std.proofs.{Common.◌-◌, Common.rules, lemmas.List.Edits.map_over_more}
use Rattle.der.proofs.number.invert.Goals as goal

pub loop-octet-preserved : goal.loop-octet-preserved
loop-octet-preserved c = search (rules, map_over_more (λ octet. 255 - octet))
