use Rattle.desk.proofs.documents.Sighted.{shows_exactly}
use Rattle.desk.proofs.laws.deposits_are_shown_exactly.Goals as goal

pub returns : goal.returns
returns c = shows_exactly
