use Rattle.std.{proofs.Common.◌≡◌, proofs.Common.take, specs.List.flat_map}
use Rattle.gentime.specs.GenTime.{two_digits}
use Rattle.gentime.proofs.components.Components.spell.Given as goal

abbrev pub invariant-loop-pair : goal.invariant-loop-pair
invariant-loop-pair l = l.text.items ≡ flat_map two_digits (take l.pair-index l.pair-items)
