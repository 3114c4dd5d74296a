use Rattle.desk.proofs.journeys.Others.{step_stays}
use Rattle.desk.proofs.laws.accounts_disturb_little.Goals as goal

pub returns : goal.returns
returns c = step_stays
