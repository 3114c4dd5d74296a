use Rattle.gentime.proofs.{Moments.text_of_rounded, Texts.round_down_bound}
use Rattle.gentime.proofs.laws.texts_are_rounded.Goals as goal

pub returns : goal.returns
returns c =
    record {
      text = λ digits moment h. text_of_rounded digits moment;
      bound =
          λ digits moment h. round_down_bound digits moment;
    }
