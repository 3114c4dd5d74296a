use Rattle.desk.proofs.{journeys.OneEffect.one_effect, journeys.Sound.TextLaws}
use Rattle.desk.proofs.laws.commands_have_one_effect.Goals as goal

pub returns : goal.returns
returns c =
    let law = c.requests_have_one_reading.ensures in
    let laws : TextLaws = record { one_request = law.one; lawful_answers = law.lawful } in
    one_effect laws
