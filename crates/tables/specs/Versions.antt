-- When a connection's tables are taken for ours.
use Rattle.std.specs.Prelude.{◌≡◌, ◌⊎◌, ℕ, pos, Bool, true, false, List, [], ◌∷◌, Result, Ok, Err, ⊤, IsTrue}
use Rattle.std.specs.Prelude.{Option, None, Some, ◌≢◌, ◌≤◌, length}
use Rattle.std.specs.List.{list_any}
use Rattle.sqlite_value.specs.{declared.value.Value.TheVariants.Int, Order.Row, Order.column}
use Rattle.sqlite_resolve.specs.{declared.compiled.Compiled.Compiled, declared.error.CompileError.CompileError}
use Rattle.sqlite_schema.specs.declared.schema.Schema.{Schema}
use Rattle.sqlite_catalog.specs.Change.{is_used}
use Rattle.sqlite.specs.Listing.{understood, reads_listing, IsSourceOf}
use Rattle.sqlite.specs.declared.error.Error.TheVariants.{SqliteFailure, SqlInputError}
use Rattle.sqlite.specs.{Does.lacks_sequence, Effect.Database, Effect.IsDatabase, Effect.RefusesToRead, State.State}
use Rattle.sqlite.specs.{declared.error.Error.Error, declared.error.ErrorCode.TheVariants.NameTaken}
use Rattle.sqlite_disk.specs.Disk.{MoreFaults}
use Rattle.book.specs.History.{Entry}
use Rattle.tables.specs.declared.version.TheConstants.{ALL_COLUMNS, SECOND_COLUMNS, FIRST_COLUMNS, VERSION}
use Rattle.tables.specs.{QueryAnswers.Answers, Transaction.CarriesFrom, Transaction.CommitsFrom, Changes.applied_all}
use Rattle.tables.specs.{Schema.no_schema, Schema.the_schema, Schema.the_version, Tables.Tables, Tables.no_rows}
use Rattle.tables.specs.{Layout.IsDatabaseOf, Layout.IsDatabaseIn, declared.version.Version.Version}
use Rattle.tables.specs.declared.version.Version.TheVariants as version

-- a query over each table and each column of the version of now
abbrev pub all_columns : List ℕ
all_columns = ALL_COLUMNS.now

-- the same of the second version
abbrev pub second_columns : List ℕ
second_columns = SECOND_COLUMNS.now

-- and of the first
abbrev pub first_columns : List ℕ
first_columns = FIRST_COLUMNS.now

-- that of a version
abbrev pub columns_of : Version → List ℕ
columns_of version.First = first_columns
columns_of version.Second = second_columns
columns_of version.Current = all_columns

-- its number, as the one row of `meta` says it
abbrev pub number_of : Version → ℕ
number_of version.First = 1
number_of version.Second = 2
number_of version.Current = the_version

-- the one row of `meta` is asked for
abbrev pub version_query : List ℕ
version_query = VERSION.now

abbrev pub IsUnderstood : Result Compiled CompileError → Type 0
IsUnderstood (Ok c) = ⊤
IsUnderstood (Err e) = ⊥

-- what a schema knows of such queries: the latest version whose tables and columns it has, if there is one
abbrev pub IsKnownAs : Option Version → Schema → Type 0
IsKnownAs None s = (¬ IsUnderstood (understood s all_columns)) × (¬ IsUnderstood (understood s second_columns))
    × (¬ IsUnderstood (understood s first_columns))
IsKnownAs (Some version.First) s =
    (¬ IsUnderstood (understood s all_columns)) × (¬ IsUnderstood (understood s second_columns))
    × IsUnderstood (understood s first_columns)
IsKnownAs (Some version.Second) s =
    (¬ IsUnderstood (understood s all_columns)) × IsUnderstood (understood s second_columns)
IsKnownAs (Some version.Current) s = IsUnderstood (understood s all_columns)

-- what was found: these tables, in trees that list their schema, with nothing that isn't committed
abbrev pub IsFound : Tables → State → Type 0
IsFound t s = IsDatabaseOf t s.now × (s.now ≡ s.committed) × IsDatabase s.now

-- the same of a version by its number
abbrev pub IsFoundIn : ℕ → Tables → State → Type 0
IsFoundIn version t s = IsDatabaseIn version t s.now × (s.now ≡ s.committed) × IsDatabase s.now

-- the rows of an answer are one, with this version
abbrev pub IsVersion : ℕ → List Row → Type 0
IsVersion version rows = (row : Row) × (rows ≡ row ∷ []) × (column row 0 ≡ Int (pos version))

-- the tables of a connection are of a version: all its tables and columns are known, and `meta` answers its number
-- alone
pub record LooksIn (asked : List ℕ) (number : ℕ) (s : State) : Type 0 where
  pub columns : IsUnderstood (understood s.now.schema asked)
  pub version : (rows : List Row) × Answers version_query [] s.now rows × IsVersion number rows

-- they aren't: a table or a column isn't known, or `meta` answers something else
abbrev pub LooksOtherThan : List ℕ → ℕ → State → Type 0
LooksOtherThan asked number s =
    (¬ IsUnderstood (understood s.now.schema asked))
    ⊎ ((rows : List Row) × Answers version_query [] s.now rows × (¬ IsVersion number rows))

abbrev pub LooksAs : Version → State → Type 0
LooksAs v = LooksIn (columns_of v) (number_of v)

-- a connection to be taken
abbrev pub LooksOurs : State → Type 0
LooksOurs = LooksAs version.Current

-- a connection not to be taken
abbrev pub LooksForeign : State → Type 0
LooksForeign = LooksOtherThan all_columns the_version

-- a query that is understood is more than one statement with so many parameters, or reads the time
abbrev pub IsUnfit : List ℕ → ℕ → Schema → Type 0
IsUnfit sql count s = (c : Compiled) × (understood s sql ≡ Ok c)
    × ((¬ (length sql ≤ c.tail)) ⊎ ((count ≢ length c.names) ⊎ (c.formats ≢ [])))

-- the database refuses to answer a query that it understands
abbrev pub IsRefused : List ℕ → Row → State → Type 0
IsRefused sql params s = (c : Compiled) × (understood s.now.schema sql ≡ Ok c)
    × (source : Database) × IsSourceOf (reads_listing s.now.schema sql) s.now source
    × (error : Error) × RefusesToRead s.step_limit c.command source params error

-- why the database answers nothing, beside want of memory: it was shut, or its disk failed or refused meanwhile
abbrev pub HasFailed : State → State → Type 0
HasFailed old new = (old.is_open ≡ false) ⊎ MoreFaults old.faults new.faults

-- or the query itself
abbrev pub IsUnanswered : List ℕ → Row → State → State → Type 0
IsUnanswered sql params old new =
    HasFailed old new
    ⊎ ((¬ IsUnderstood (understood old.now.schema sql))
    ⊎ (IsUnfit sql (length params) old.now.schema ⊎ IsRefused sql params old))

-- the same of whether a query is understood
abbrev pub IsUnprepared : List ℕ → State → State → Type 0
IsUnprepared sql old new = HasFailed old new ⊎ IsUnfit sql 0 old.now.schema

-- why it isn't told of which version a connection's tables are, beside want of memory: where a version's tables and
-- columns are known the row of `meta` may be refused
abbrev pub IsUntold : State → State → Type 0
IsUntold old new =
    ((v : Version) × IsUnprepared (columns_of v) old new)
    ⊎ ((v : Version) × IsKnownAs (Some v) old.now.schema × IsUnanswered version_query [] old new)

-- what is told of a connection's tables
abbrev pub TellsVersion : Option Version → State → Type 0
TellsVersion None s = LooksForeign s
TellsVersion (Some version.First) s = LooksAs version.First s × LooksForeign s
TellsVersion (Some version.Second) s = LooksAs version.Second s × LooksForeign s
TellsVersion (Some version.Current) s = LooksOurs s

-- a table, an index or a view has the name of one of our tables
abbrev pub takes_name : Schema → Bool
takes_name s = list_any (λ table. is_used s table.name) the_schema.tables

-- or that of an index which one of our tables comes with
abbrev pub takes_index : Schema → Bool
takes_index s = list_any (λ index. is_used s index.name) the_schema.indexes

-- What stands in the way of our tables: such a name, or a table that counts its rows without the table of SQLite's that
-- it counts them in, which SQLite never leaves.
abbrev pub IsInTheWay : Schema → Type 0
IsInTheWay s = IsTrue (takes_name s) ⊎ (IsTrue (takes_index s) ⊎ IsTrue (lacks_sequence s))

-- all tables are made, with the row of `meta` and what the entries make, or nothing is
abbrev pub Creates : List Entry → State → State → Result (Unit {0}) Error → Type 0
Creates entries old new =
    CommitsFrom (λ _ d. d.schema ≡ no_schema) (IsTrue old.is_open) (λ _. applied_all entries no_rows) old new

-- the same inside a transaction, before its commit
abbrev pub Fills : List Entry → State → State → Result (Unit {0}) Error → Type 0
Fills entries old new =
    CarriesFrom (λ _ d. d.schema ≡ no_schema) (IsTrue old.is_open) (λ _. applied_all entries no_rows) old new

-- the error of a statement that makes what is there, or that isn't understood
abbrev pub tells_taken : Error → Bool
tells_taken (SqliteFailure NameTaken) = true
tells_taken (SqlInputError f) = true
tells_taken _ = false
