-- What a query tells, asked in a transaction of its own that is undone.
use Rattle.std.specs.Prelude.{◌≡◌, ◌⊎◌, ℕ, pos, ◌≤◌, false, List, [], ◌∷◌, IsTrue, Option, None, Some, Ok, Result}
use Rattle.std.specs.{Prelude.OnOk, Prelude.unwrap_or, List.slice_get}
use Rattle.sqlite_disk.specs.Disk.{MoreFaults}
use Rattle.sqlite_value.specs.{declared.value.Value.TheVariants.Int, Order.Row, Order.column}
use Rattle.sqlite_trees.specs.Tree.{Trees}
use Rattle.sqlite_schema.specs.declared.schema.Schema.{Schema}
use Rattle.sqlite_resolve.specs.declared.compiled.Compiled.{Compiled}
use Rattle.sqlite.specs.Listing.{understood, reads_listing, IsSourceOf}
use Rattle.sqlite.specs.State.{State, HasCleanDisk, Survives, KeepsCommit}
use Rattle.sqlite.specs.{Effect.Database, Effect.Reads, Given.IsPlain, declared.error.Error.Error}
use Rattle.sqlite.proofs.Callers.{command_of}
use Rattle.tables.specs.Schema.{the_schema}

-- a text that reads our tables alone
pub record IsQueryText (sql : List ℕ) : Type 0 where
  pub plain : IsPlain (understood the_schema sql)
  pub unlisted : reads_listing the_schema sql ≡ false

-- the rows are an answer of the query over these trees
abbrev pub TellsRows : List ℕ → Row → Trees → List Row → Type 0
TellsRows sql params db rows =
    Reads (command_of (understood the_schema sql)) (record { schema = the_schema; trees = db }) params rows

-- the text has no RETURNING and reads no time, where the schema understands it
abbrev pub IsPlainIn : Schema → List ℕ → Type 0
IsPlainIn schema sql = (c : Compiled) → understood schema sql ≡ Ok c → (c.returning ≡ None) × (c.formats ≡ [])

-- the rows are an answer of the query on this database, whatever its schema
abbrev pub Answers : List ℕ → Row → Database → List Row → Type 0
Answers sql params d rows =
    (c : Compiled) × (understood d.schema sql ≡ Ok c) × (source : Database)
    × IsSourceOf (reads_listing d.schema sql) d source × Reads c.command source params rows

-- a query inside a transaction, whatever its text, commits nothing
pub record AsksInside {X : Type 0} (old new : State) (result : Result X Error) : Type 0 where
  pub survives : Survives old new (λ _. ⊥)
  pub kept : HasCleanDisk new → IsTrue old.in_transaction → KeepsCommit old new
  pub opened : HasCleanDisk new → IsTrue old.in_transaction → OnOk result (IsTrue old.is_open)

-- an open connection stays open, unless the disk failed or refused meanwhile, and later queries may take as many steps
-- as before
pub record StaysUsable (old new : State) : Type 0 where
  pub counts : old.faults ≤ new.faults
  pub stays : HasCleanDisk new → IsTrue old.is_open → IsTrue new.is_open ⊎ MoreFaults old.faults new.faults
  pub limit : new.step_limit ≡ old.step_limit

-- nothing changes, whatever the query answers
pub record Looks (old new : State) : Type 0 where
  pub clean : HasCleanDisk new → HasCleanDisk old
  pub reopens : HasCleanDisk new → IsTrue new.is_open → IsTrue old.is_open
  pub kept : HasCleanDisk new → IsTrue new.is_open → old.now ≡ old.committed
      → (new.now ≡ old.now) × (new.now ≡ new.committed)
  pub leaves : HasCleanDisk new → (db : Trees) → new.may_leave db → old.may_leave db
  pub usable : StaysUsable old new

-- the first row of an answer, where there is one
abbrev pub TellsFirst : List ℕ → Row → Trees → Option Row → Type 0
TellsFirst sql params db row = (rows : List Row) × TellsRows sql params db rows × (slice_get rows 0 ≡ row)

-- what is read of such a row
abbrev pub IsReadAs : {Y : Type 0} → (Row → Y → Type 0) → Option Row → Option Y → Type 0
IsReadAs {Y} Shows None found = found ≡ None
IsReadAs {Y} Shows (Some row) found = (y : Y) × (found ≡ Some y) × Shows row y

-- what is read of each of the rows
abbrev pub AreReadAs : {Y : Type 0} → (Row → Y → Type 0) → List Row → List Y → Type 0
AreReadAs {Y} Shows [] found = found ≡ []
AreReadAs {Y} Shows (row ∷ rows) found =
    (y : Y) × (others : List Y) × (found ≡ y ∷ others) × Shows row y × AreReadAs Shows rows others

-- what the first row of an answer shows, where there is one
abbrev pub TellsFirstAs : {Y : Type 0} → (Row → Y → Type 0) → List ℕ → Row → Trees → Option Y → Type 0
TellsFirstAs Shows sql params db found =
    (row : Option Row) × TellsFirst sql params db row × IsReadAs Shows row found

-- the number that it begins with, 0 where there is none
abbrev pub TellsNumber : List ℕ → Trees → ℕ → Type 0
TellsNumber sql db n =
    (found : Option ℕ) × TellsFirstAs (λ row m. column row 0 ≡ Int (pos m)) sql [] db found × (n ≡ unwrap_or found 0)
