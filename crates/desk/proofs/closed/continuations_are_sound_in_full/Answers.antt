use Rattle.desk.proofs.journeys.WholeOn.{whole_on, rising_on}
use Rattle.desk.proofs.closed.continuations_are_sound_in_full.Goals as goal

pub returns-clause-whole : goal.returns-clause-whole
returns-clause-whole c = whole_on

pub returns-clause-rising : goal.returns-clause-rising
returns-clause-rising c = rising_on
