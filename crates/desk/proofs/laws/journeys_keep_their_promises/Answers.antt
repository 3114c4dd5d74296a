use Rattle.desk.proofs.journeys.KeptPromises.{journeys_have_properties, open_along}
use Rattle.desk.proofs.{journeys.Acknowledged.readers_along, journeys.FallingSerials.given_in_order}
use Rattle.desk.proofs.{journeys.Sound.TextLaws, journeys.Whole.continued_properties}
use Rattle.desk.proofs.laws.journeys_keep_their_promises.Goals as goal

pub returns : goal.returns
returns c =
    let law = c.requests_have_one_reading.ensures in
    let laws : TextLaws = record { one_request = law.one; lawful_answers = law.lawful } in
    record {
      journey = journeys_have_properties laws;
      open_by = open_along laws;
      given = given_in_order laws;
      readers = readers_along;
      continued = continued_properties laws;
    }
