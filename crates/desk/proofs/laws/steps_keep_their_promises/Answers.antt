use Rattle.desk.proofs.{journeys.Promised.keeps_promises, journeys.Sound.TextLaws}
use Rattle.desk.proofs.laws.steps_keep_their_promises.Goals as goal

pub returns : goal.returns
returns c =
    let law = c.requests_have_one_reading.ensures in
    let laws : TextLaws = record { one_request = law.one; lawful_answers = law.lawful } in
    keeps_promises laws
