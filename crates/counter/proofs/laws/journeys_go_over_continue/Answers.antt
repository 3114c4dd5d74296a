use Rattle.counter.specs.Continuation.{floor_of}
use Rattle.operations.specs.Machine.{image_at}
use Rattle.counter.proofs.laws.journeys_go_over_continue.Goals as goal

pub returns : goal.returns
returns g c files s words extent done =
    c.journeys_go_over_continuations.ensures (image_at g.F.Start) (floor_of words) done.1.0
