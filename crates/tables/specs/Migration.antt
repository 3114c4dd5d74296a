-- What a migration to the version of now makes of a connection's tables.
use Rattle.std.specs.Prelude.{◌≡◌, ◌⊎◌, Result, OnOk, OnErr, IsTrue}
use Rattle.sqlite_trees.specs.Tree.{Trees}
use Rattle.sqlite.specs.State.{State, HasCleanDisk}
use Rattle.tables.specs.{Layout.IsStored, QueryAnswers.Looks, QueryAnswers.StaysUsable, Tables.Tables, Versions.IsFound}
use Rattle.tables.specs.{Versions.IsFoundIn, Versions.number_of, declared.version.Version.Version}

pub record Migrates {E : Type 0} (old new : State) (result : Result (Unit {0}) E) : Type 0 where
  pub clean : HasCleanDisk new → HasCleanDisk old
  pub reopens : HasCleanDisk new → IsTrue new.is_open → IsTrue old.is_open
  pub opened : HasCleanDisk new → OnOk result (IsTrue old.is_open)
  -- tables of any version are the same tables of now
  pub ok : HasCleanDisk new → IsTrue new.is_open → (v : Version) (t : Tables) → IsFoundIn (number_of v) t old
      → OnOk result (IsFound t new)
  -- done, the connection is open still, where the tables weren't those of now
  pub done : HasCleanDisk new → (v : Version) (t : Tables) → IsFoundIn (number_of v) t old
      → OnOk result (IsTrue new.is_open ⊎ IsFound t old)
  pub err : HasCleanDisk new → IsTrue new.is_open → old.now ≡ old.committed
      → OnErr result ((new.now ≡ old.now) × (new.now ≡ new.committed))
  -- a crash leaves what it could leave before, or the tables as tables of now
  pub crash : HasCleanDisk new → (db : Trees) → new.may_leave db
      → old.may_leave db ⊎ ((v : Version) (t : Tables) → IsFoundIn (number_of v) t old → IsStored t db)
  -- tables of now aren't changed
  pub same : HasCleanDisk new → (t : Tables) → IsFound t old → Looks old new
  pub usable : StaysUsable old new
