use Rattle.desk.proofs.{journeys.Sound.TextLaws, journeys.Whole.runs_alike}
use Rattle.desk.proofs.laws.accounts_are_isolated.Goals as goal

pub returns : goal.returns
returns g c =
    let law = c.requests_have_one_reading.ensures in
    let laws : TextLaws = record { one_request = law.one; lawful_answers = law.lawful } in
    runs_alike g.S.Signer.signs laws
