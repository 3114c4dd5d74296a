use Rattle.book.proofs.GoingOn.{closed_is, closing_sound, all_held, goes_on_closed}
use Rattle.book.proofs.continuation.closed_books_hold_all_moments.Goals as goal

pub returns : goal.returns
returns c = record {
  closed = closed_is;
  sound = closing_sound;
  held = all_held;
  again = goes_on_closed;
}
