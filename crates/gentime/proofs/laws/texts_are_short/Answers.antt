use Rattle.gentime.proofs.Texts.{text_of_short}
use Rattle.gentime.proofs.laws.texts_are_short.Goals as goal

pub returns : goal.returns
returns c = λ digits moment d h. text_of_short digits moment h
