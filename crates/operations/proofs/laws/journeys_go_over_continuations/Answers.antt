use Rattle.desk.specs.MachineRuns.{rests, continues}
use Rattle.book.specs.Continuation.{closed, continued}
use Rattle.operations.proofs.FileStores.{stands_as_book}
use Rattle.operations.proofs.laws.journeys_go_over_continuations.Goals as goal

pub returns : goal.returns
returns g c held floor (opened, found, (left, (made, goes, closes_made), closes)) = (
  opened,
  found,
  (
    left,
    (
      made,
      closes_made,
      λ honest b x w journey holds.
          let has = c.journeys_keep_their_promises.ensures.journey b x w journey in
          let stands = stands_as_book g.D.Disk b opened
          (c.openings_find_what_was_left.ensures b has.sound.sound held holds opened (found (goes.honest honest))) in
          let on = goes.goes_on honest b stands in
          let shut = c.closed_books_hold_all_moments.ensures.closed b in
          record {
            closes = goes.closes honest b stands;
            leaves = λ l leaves. goes.leaves honest l leaves b stands;
            nothing = λ s command o e effect.
                c.closed_books_give_nothing_out.ensures.nothing s command o (closed b) e shut effect;
            stays = λ s command o e k effect. c.closed_books_stay_closed.ensures s command o (closed b) e k shut effect;
            history = continued goes.void b;
            journey = continues goes.void on.above (on.stated has.sound) (rests journey);
            stands = on.stands;
            opened = goes.opened;
            rises = λ added sound rising. c.continuations_rise.ensures goes.void b added has.rising has.sound.sound
                on.above sound rising;
          },
    ),
    closes,
  ),
)
