use Rattle.desk.proofs.journeys.Headline.{granted_is, rejected_is, granted_where, rejected_where}
use Rattle.desk.proofs.{journeys.Planned.of_plan, journeys.Sound.TextLaws, journeys.Views.reserved_below}
use Rattle.desk.proofs.laws.grants_are_of_their_plan.Goals as goal

pub returns : goal.returns
returns c =
    let law = c.requests_have_one_reading.ensures in
    let laws : TextLaws = record { one_request = law.one; lawful_answers = law.lawful } in
    record {
      granted = granted_is;
      rejected = rejected_is;
      grants = granted_where;
      rejects = rejected_where;
      plan = of_plan laws;
      above = λ b n r. reserved_below n b r;
    }
