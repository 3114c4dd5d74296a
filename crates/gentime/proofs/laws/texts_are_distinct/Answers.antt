use Rattle.gentime.proofs.{Moments.same_text, Pairs.stated_once}
use Rattle.gentime.proofs.laws.texts_are_distinct.Goals as goal

pub returns : goal.returns
returns c = record { times = stated_once; moments = same_text }
