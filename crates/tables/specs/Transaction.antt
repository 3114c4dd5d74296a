-- What a statement inside a transaction does to the tables, and what a call that commits does.
use Rattle.std.specs.Prelude.{◌≡◌, ◌⊎◌, Result, OnOk, OnErr, IsTrue}
use Rattle.sqlite_trees.specs.Tree.{Trees}
use Rattle.sqlite.specs.State.{State, HasCleanDisk, Survives, KeepsCommit}
use Rattle.sqlite.specs.{declared.error.Error.Error, Effect.Database, Effect.IsDatabase}
use Rattle.tables.specs.{QueryAnswers.StaysUsable, Tables.Tables, Layout.IsStored, Layout.IsDatabaseOf}

-- by what is known of the database and of the connection before
module _ (Before : Tables → Database → Type 0) (Known : Type 0) where
  -- the tables took this step, and the transaction goes on
  pub record GoesFrom (step : Tables → Tables) (old new : State) : Type 0 where
    pub was_open : Known → IsTrue old.is_open
    pub inside : IsTrue new.in_transaction
    pub goes : (t : Tables) → Before t old.now → IsDatabaseOf (step t) new.now
    pub sound : (t : Tables) → Before t old.now → IsDatabase new.now

  -- nothing is committed, and a success takes the step
  pub record CarriesFrom {X : Type 0} (step : Tables → Tables) (old new : State) (result : Result X Error) : Type
      0 where
    pub survives : Survives old new (λ _. ⊥)
    pub kept : HasCleanDisk new → IsTrue old.in_transaction → KeepsCommit old new
    pub ok : HasCleanDisk new → IsTrue old.in_transaction → OnOk result (GoesFrom step old new)

  -- what a call is that commits the step, or nothing
  pub record CommitsFrom {X : Type 0} (step : Tables → Tables) (old new : State) (result : Result X Error) : Type
      0 where
    pub clean : HasCleanDisk new → HasCleanDisk old
    pub reopens : HasCleanDisk new → IsTrue new.is_open → IsTrue old.is_open
    pub opened : HasCleanDisk new → OnOk result (IsTrue old.is_open × IsTrue new.is_open)
    pub ok : HasCleanDisk new → (t : Tables) → Before t old.now
        → OnOk result (IsDatabaseOf (step t) new.now × (new.now ≡ new.committed) × IsDatabase new.now)
    pub err : HasCleanDisk new → IsTrue new.is_open → old.now ≡ old.committed
        → OnErr result ((new.now ≡ old.now) × (new.now ≡ new.committed))
    -- a crash leaves what it could leave before, or the step committed
    pub crash : HasCleanDisk new → (db : Trees) → new.may_leave db
        → old.may_leave db ⊎ ((Known → IsTrue old.is_open) × ((t : Tables) → Before t old.now → IsStored (step t) db))
    pub usable : StaysUsable old new

-- a sound database of the tables
pub record IsSoundOf (t : Tables) (d : Database) : Type 0 where
  pub database : IsDatabaseOf t d
  pub sound : IsDatabase d

abbrev pub Goes : (Tables → Tables) → State → State → Type 0
Goes = GoesFrom IsSoundOf (Unit {0})

abbrev pub Carries : {X : Type 0} → (Tables → Tables) → State → State → Result X Error → Type 0
Carries = CarriesFrom IsSoundOf (Unit {0})

abbrev pub Commits : {X : Type 0} → (Tables → Tables) → State → State → Result X Error → Type 0
Commits = CommitsFrom IsSoundOf (Unit {0})
