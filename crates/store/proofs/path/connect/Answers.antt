use Rattle.sqlite_disk.specs.Events.{Event, replay}
use Rattle.store.proofs.Words.{Bool, Image, List, ap₂, cond, ℕ}
use Rattle.store.proofs.Unopened.{fails_to_open, opens_nothing}
use Rattle.store.proofs.path.connect.Goals as goal

abbrev image : List ℕ → List ℕ → Image
image log db = record { log = log; db = db }

abbrev seen : List ℕ → List ℕ → Bool → List Event → List ℕ
seen log db is_log history = (replay (cond is_log log db) history).seen

pub returns-in-Err-clause-told : goal.returns-in-Err-clause-told
returns-in-Err-clause-told g c = (
  c.in-Err.error,
  c.opening_fault.ensures.value,
  fails_to_open _ _ _ _
      (λ files log db. ap₂ image (ap₂ (seen g.T.Start.log g.T.Start.db) log.0 log.1)
      (ap₂ (seen g.T.Start.log g.T.Start.db) db.0 db.1))
      _ _ c.in-Err.ensures.unopened c.in-Err.ensures.cause,
)

pub returns-in-Err-clause-none : goal.returns-in-Err-clause-none
returns-in-Err-clause-none g c is =
    opens_nothing _ _ _ (c.opening_fault.ensures.none is)
    (fails_to_open _ _ _ _
    (λ files log db. ap₂ image (ap₂ (seen g.T.Start.log g.T.Start.db) log.0 log.1)
    (ap₂ (seen g.T.Start.log g.T.Start.db) db.0 db.1))
    _ _ c.in-Err.ensures.unopened c.in-Err.ensures.cause)
