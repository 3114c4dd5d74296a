use Rattle.desk.proofs.journeys.ClosedBooks.{stays_closed}
use Rattle.desk.proofs.closed.closed_books_stay_closed.Goals as goal

pub returns : goal.returns
returns c = stays_closed
