-- What the store at a path stands for once it is opened, why it isn't, and what it leaves in its files once it is
-- closed.
use Rattle.std.specs.Prelude.{◌≡◌, ◌==◌, ◌⊎◌, ℕ, Bool, true, false, if◌then◌else◌, List, [], ◌∷◌, ◌++◌, codes}
use Rattle.std.specs.Prelude.{IsTrue, Option, None, IfSome, Result, Ok, Err}
use Rattle.sqlite_disk.specs.{declared.Disk.Ghosts, declared.Files.Files}
use Rattle.sqlite_trees.specs.{Tree.Trees, View.IsClean}
use Rattle.sqlite_wal.specs.Files.{outcomes}
pub use Rattle.sqlite_wal.specs.Files.{image_at}
use Rattle.sqlite_wal.specs.{Recovery.Image, Reads.AreClean}
use Rattle.sqlite_store.specs.{declared.store.FileStore.FileStore, FileStore.view}
use Rattle.sqlite_trees.specs.declared.store.Store as store
use Rattle.sqlite.specs.Files.{file_state, over_files, image_of, IsOpened, IsCleanLeft, HoldsDatabase, IsNothing}
use Rattle.sqlite.specs.{declared.error.Error.Error, declared.error.Error.TheVariants.SqliteFailure, Closing.IsCopied}
use Rattle.sqlite.specs.{declared.file.Leftover.Leftover, Files.FailsToClose, Files.FailsToOpenFiles, Files.IsClosed}
use Rattle.sqlite.specs.{Held.Held, Held.state, Start.FindsIn, State.State, State.HasCleanDisk}
use Rattle.sqlite.specs.declared.error.ErrorCode.TheVariants as code
use Rattle.book.specs.declared.fault.StoreFault.{StoreFault}
use Rattle.book.specs.declared.fault.StoreFault.TheVariants.{Database, NotOurs}
use Rattle.book.specs.{Entries.with_all, Entries.FitInTurn, History.Entry, History.History, Sound.IsSound}
use Rattle.store.specs.{declared.paths.FileState.FileState, declared.paths.Paths.Ghosts as Sight}
use Rattle.store.specs.{declared.path.Course.Course, Stands.Stands, TablesOf.tables_of}
use Rattle.store.specs.declared.paths.FileState.TheVariants as found
use Rattle.store.specs.declared.path.Course.TheVariants as course
use Rattle.tables.specs.Versions.{IsFound, IsFoundIn, LooksOurs, LooksForeign, number_of}
use Rattle.tables.specs.{QueryAnswers.Looks, QueryAnswers.StaysUsable, Base.BaseValue, Base.IsStored, Faults.fault_of}
use Rattle.tables.specs.{Faults.opening_fault_of, Faults.told, Faults.told_using, Migration.Migrates}
use Rattle.tables.specs.{declared.fault.Task.TheVariants.Open, declared.version.Version.Version, Schema.no_schema}

-- what a refused making of the tables leaves, on a connection that is as usable: what is seen, while it is open; of
-- what a crash leaves it says nothing
pub record LeavesAsItWas (old new : State) : Type 0 where
  pub clean : HasCleanDisk new → HasCleanDisk old
  pub reopens : HasCleanDisk new → IsTrue new.is_open → IsTrue old.is_open
  pub kept : HasCleanDisk new → IsTrue new.is_open → old.now ≡ old.committed
      → (new.now ≡ old.now) × (new.now ≡ new.committed)
  pub usable : StaysUsable old new

-- what a crash in it, or at its end, may leave: what it could leave before, or of an empty database the tables of the
-- history with these entries, where they fit in turn
abbrev pub LeavesOrMakes : List Entry → State → State → Type 0
LeavesOrMakes entries old new =
    HasCleanDisk new → (db : Trees) → new.may_leave db
    → old.may_leave db
    ⊎ (old.now.schema ≡ no_schema → FitInTurn entries [] → IsStored (tables_of (with_all entries [])) db)

-- what a crash in a migration, or at its end, may leave: what it could leave before or, of a history's tables in any
-- version, its tables of now
abbrev pub LeavesOrMigrates : State → State → Type 0
LeavesOrMigrates old new =
    HasCleanDisk new → (db : Trees) → new.may_leave db
    → old.may_leave db
    ⊎ ((v : Version) (b : History) → IsFoundIn (number_of v) (tables_of b) old → IsStored (tables_of b) db)

-- a connection was opened over what the files held, and the store stands for each sound history whose tables it found
-- there
pub record OpensFound {D : Type 0} {g : Ghosts D} (held : Image) (store : BaseValue (FileStore D g)) : Type 0 where
  pub was : Held (FileStore D g)
  pub opened : IsOpened was
  pub found : FindsIn held (file_state was)
  pub ours : LooksOurs (file_state was)
  pub looks : Looks (file_state was) (file_state store.conn)
  pub stands : (b : History) → IsSound b → IsFound (tables_of b) (file_state was) → Stands over_files b store

-- the files hold the history's tables
abbrev pub HoldsTables : History → Image → Type 0
HoldsTables b image = (db : Trees) × IsStored (tables_of b) db × ∥ HoldsDatabase image db ∥₁

-- and so does the database file with no log
abbrev pub KeepsAlone : History → Image → Type 0
KeepsAlone b image = HoldsTables b image × HoldsTables b (record image { log = [] })

-- so do a closed store's, as they read now and after any crash
pub record LeavesFiles {D : Type 0} (g : Ghosts D) (b : History) (files : Files D) : Type 0 where
  pub seen : KeepsAlone b (image_of g files)
  pub left : (image : Image) → outcomes g files.log files.db image → KeepsAlone b image

-- by the database's error, where its files are opened
abbrev pub told_opening : Error → StoreFault
told_opening error = opening_fault_of (told error Open)

-- and where they are closed
abbrev pub told_closing : Error → StoreFault
told_closing error = fault_of (told_using error)

-- A connection to files was closed so. What it committed is in the database file, as that reads now and after any
-- crash; or that was refused, by the database's error, and a crash finds nothing that it wouldn't have found before.
abbrev pub HasClosed : {D : Type 0} {g : Ghosts D} → Held (FileStore D g) → Result (Files D) StoreFault → Type 0
HasClosed {g = g} was (Ok files) = AreClean g files.log files.db → IsCopied was files
HasClosed {D} {g} was (Err fault) = (error : Error) × (fault ≡ told_closing error)
    × ((left : FileStore D g) × IsClosed was left × (IsClean (view left) → FailsToClose was left error))

-- the tables of a connection were taken to the schema of now
abbrev pub HasMigrated : State → State → Type 0
HasMigrated old new = Migrates {E = StoreFault} old new (Ok tt)

-- and what that left was closed so
pub record IsMigrated {D : Type 0} {g : Ghosts D} (was : Held (FileStore D g)) (done : Result (Files D) StoreFault)
    : Type 0 where
  pub left : Held (FileStore D g)
  pub migrates : HasMigrated (file_state was) (file_state left)
  pub closed : HasClosed left done

-- those of one that was opened over what the files held
pub record MigratesFound {D : Type 0} (g : Ghosts D) (held : Image) : Type 0 where
  pub was : Held (FileStore D g)
  pub found : HasCleanDisk (file_state was) → IsOpened was × FindsIn held (file_state was)
  pub done : Result (Files D) StoreFault
  pub migrated : IsMigrated was done

-- the tables of a connection aren't the counter's, nor those of any history
pub record SeemsForeign {S : Type 0} (g : store.Ghosts S) (was : Held S) : Type 0 where
  -- the connection once they were looked for
  pub left : Held S
  pub looks : Looks (state g was) (state g left)
  pub foreign : HasCleanDisk (state g left) → LooksForeign (state g was)
  pub other : HasCleanDisk (state g left) → (b : History) → ¬ IsFound (tables_of b) (state g was)

-- a connection was opened over what the files held, and its tables aren't the counter's
pub record OpensForeign {D : Type 0} (g : Ghosts D) (held : Image) : Type 0 where
  pub was : Held (FileStore D g)
  pub seems : SeemsForeign over_files was
  pub found : HasCleanDisk (file_state seems.left) → IsOpened was × FindsIn held (file_state was)

-- what the files held is no database, nor what one is made in
abbrev pub OpensNothing : {D : Type 0} → Ghosts D → Image → Type 0
OpensNothing {D} g held =
    (left : Leftover D g) × (IsCleanLeft left → ¬ (((db : Trees) × HoldsDatabase held db) ⊎ IsNothing held))

-- Files that held this weren't opened, by that error, once those at the path were: for memory or a limit, for a fault
-- of the disk, or for what they held.
abbrev pub FailsToOpen : {D : Type 0} → Ghosts D → Image → Error → Type 0
FailsToOpen {D} g held error =
    (left : Option (Leftover D g))
    × (left ≡ None → (error ≡ SqliteFailure code.CannotOpen)
    ⊎ ((error ≡ SqliteFailure code.OutOfMemory) ⊎ (error ≡ SqliteFailure code.DatabaseBusy)))
    × IfSome left (λ it. (files : Files D) × (image_of g files ≡ held)
    × (IsCleanLeft it → FailsToOpenFiles files it error))

-- a connection was opened over what the files held, and its database has no table, index or view
pub record IsBare {D : Type 0} (g : Ghosts D) (held : Image) : Type 0 where
  pub was : Held (FileStore D g)
  pub found : HasCleanDisk (file_state was) → IsOpened was × FindsIn held (file_state was)
  pub bare : (file_state was).now.schema ≡ no_schema

-- nothing of the counter's or another's stands there; where nothing does at all, a file can be made
abbrev pub IsFree : {D : Type 0} → Ghosts D → Image → Type 0 → FileState → Type 0
IsFree g held CanMake found.Nothing = CanMake
IsFree g held CanMake found.Empty = Unit {0}
IsFree g held CanMake found.Database = IsBare g held
IsFree g held CanMake found.Other = ⊥

-- so it is with a path, by what was seen there
abbrev pub IsFreeAt : {D P : Type 0} → Ghosts D → Image → Sight P → P → List ℕ → Type 0
IsFreeAt g held sight paths path =
    (found : FileState) × sight.sees paths path found × IsFree g held (sight.makes paths path) found

-- why files are another's
abbrev pub IsForeign : {D : Type 0} → Ghosts D → Image → Type 0
IsForeign g held = OpensNothing g held ⊎ OpensForeign g held

-- how a database begins
abbrev pub beginning : List ℕ
beginning = codes "SQLite format 3" ++ 0 ∷ []

-- what a file is, by whether it begins so or its log holds octets, and by its length
abbrev pub found_as : Bool → ℕ → FileState
found_as true len = found.Database
found_as false len = if len == 0 then found.Empty else found.Other

-- the refusal of an opening, by what stands at its path: no file, one of no octets, a database, another
abbrev pub fault_where : FileState → Result (Unit {0}) StoreFault
fault_where found.Nothing = Err Database
fault_where found.Empty = Err NotOurs
fault_where found.Database = Ok tt
fault_where found.Other = Err NotOurs

-- and of the making of tables
abbrev pub fault_where_made : FileState → Result (Unit {0}) StoreFault
fault_where_made found.Nothing = Ok tt
fault_where_made found.Empty = Ok tt
fault_where_made found.Database = Ok tt
fault_where_made found.Other = Err NotOurs

-- and of either, by what becomes of the tables
abbrev pub fault_at : Course → FileState → Result (Unit {0}) StoreFault
fault_at course.Adopt = fault_where
fault_at course.Create = fault_where_made
