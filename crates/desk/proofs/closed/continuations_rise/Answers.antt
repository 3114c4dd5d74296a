use Rattle.desk.proofs.journeys.RisingOn.{rises_on}
use Rattle.desk.proofs.closed.continuations_rise.Goals as goal

pub returns : goal.returns
returns c = rises_on
