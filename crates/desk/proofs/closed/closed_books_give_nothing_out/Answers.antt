use Rattle.desk.proofs.journeys.ClosedBooks.{never_good, nothing_given}
use Rattle.desk.proofs.closed.closed_books_give_nothing_out.Goals as goal

pub returns-clause-clock : goal.returns-clause-clock
returns-clause-clock c = never_good

pub returns-clause-nothing : goal.returns-clause-nothing
returns-clause-nothing c = nothing_given
