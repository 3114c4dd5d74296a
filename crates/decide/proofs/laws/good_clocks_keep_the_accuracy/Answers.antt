use Rattle.decide.proofs.Clocks.{keeps_accuracy}
use Rattle.decide.proofs.laws.good_clocks_keep_the_accuracy.Goals as goal

pub returns : goal.returns
returns c = keeps_accuracy
