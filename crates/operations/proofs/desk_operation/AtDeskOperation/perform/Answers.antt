use Rattle.operations.proofs.InDatabases.{unvisited_as, visited_as}
use Rattle.operations.proofs.desk_operation.AtDeskOperation.perform.Goals as goal

pub returns-in-Ok-clause-moved : goal.returns-in-Ok-clause-moved
returns-in-Ok-clause-moved g c =
    let done = c.perform_signed-book.ensures in
    let reached = c.in-Ok.ensures.reached in (
      visited_as _ _ _ _ _ _ _ _ _ _ reached c.leave.ensures done.moved,
      unvisited_as _ _ _ _ _ _ _ _ _ _ reached c.leave.ensures done.unasked done.unmoved,
    )
