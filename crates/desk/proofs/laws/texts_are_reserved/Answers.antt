use Rattle.desk.proofs.journeys.Given.{asked_is_reserved, begun_is_reserved}
use Rattle.desk.proofs.laws.texts_are_reserved.Goals as goal

pub returns : goal.returns
returns c = record { asked = asked_is_reserved; begun = begun_is_reserved }
