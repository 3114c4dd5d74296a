-- When a database holds the tables. A row of a database is its own number, the rowid, and then its columns. An INTEGER
-- PRIMARY KEY is the rowid itself, and its column is kept as NULL. Other tables have a rowid that says nothing.
use Rattle.std.specs.Prelude.{◌≡◌, ◌<◌, ◌^◌, ℕ, pos, Bool, true, false, List, [], ◌∷◌, map, filter, length, drop}
use Rattle.std.specs.Prelude.{Option, Some, None, IsPermutation, IsTrue, nat_le, nat_lt}
use Rattle.std.specs.List.{AllByRecursion}
use Rattle.sqlite_value.specs.declared.value.Value.TheVariants.{Null, Int, Text, Blob}
use Rattle.sqlite_value.specs.{declared.value.Value.Value, Order.Row}
use Rattle.sqlite_trees.specs.{declared.store.Shape.TheVariants.Table, View.IsShaped, Tree.Trees}
use Rattle.sqlite_catalog.specs.Listing.{IsSound}
use Rattle.sqlite.specs.Effect.{Database}
use Rattle.tables.specs.{Names.Name, Names.names, Schema.first_version, Schema.schema_of, Schema.the_schema}
use Rattle.tables.specs.{Schema.the_version, Tables.StampRow, Tables.CalibrationRow, Tables.HoldRow, Tables.DepositRow}
use Rattle.tables.specs.{Tables.ReaderRow, Tables.TallyRow, Tables.InstalledRow, Tables.Tables}
use Rattle.tables.specs.Names as name

abbrev pub token_cell : Option (List ℕ) → Value
token_cell None = Null
token_cell (Some token) = Blob token

abbrev pub version_cells : ℕ → Row
version_cells version = Int (pos version) ∷ []

abbrev pub stamp_cells : StampRow → Row
stamp_cells s =
    Int (pos s.serial) ∷ Null ∷ Text s.account ∷ Int (pos s.day) ∷ Int (pos s.gen_time) ∷ Blob s.policy
    ∷ Blob s.algorithm ∷ Blob s.digest
    ∷ Blob s.request ∷ Blob s.tst ∷ token_cell s.token ∷ []

abbrev pub calibration_cells : CalibrationRow → Row
calibration_cells c = Int (pos c.n) ∷ Null ∷ Int c.reading ∷ Int c.offset ∷ Int (pos c.uncertainty) ∷ []

abbrev pub hold_cells : HoldRow → Row
hold_cells h = Int (pos h.n) ∷ Null ∷ Int h.from ∷ Int h.to ∷ []

abbrev pub deposit_cells : DepositRow → Row
deposit_cells d = Int (pos d.serial) ∷ Null ∷ Text d.owner ∷ Text d.reference ∷ Blob d.bytes ∷ []

abbrev pub reader_cells : ReaderRow → Row
reader_cells r = Int (pos r.serial) ∷ Text r.name ∷ []

abbrev pub tally_cells : TallyRow → Row
tally_cells t = Text t.account ∷ Int (pos t.day) ∷ Int (pos t.count) ∷ []

abbrev pub identity_cells : InstalledRow → Row
identity_cells i =
    Int (pos i.number) ∷ Null ∷ Int (pos i.after_serial) ∷ Blob i.certificate ∷ Blob i.chain ∷ []

-- what a row says: all of it where its rowid is the key, and what comes after its rowid else
abbrev pub said : Bool → Row → Row
said true row = row
said false row = drop 1 row

-- the rows say these, and stand in the order of their rowids, which are whole numbers
pub record AreRows {X : Type 0} (keyed : Bool) (cells : X → Row) (xs : List X) (rows : List Row) : Type 0 where
  pub shaped : IsShaped Table rows
  pub same : IsPermutation (map cells xs) (map (said keyed) rows)

-- ---- each table by its name

-- a row of it
abbrev pub RowOf : Name → Type 0
RowOf name.Meta = ℕ
RowOf name.Stamp = StampRow
RowOf name.Calibration = CalibrationRow
RowOf name.Hold = HoldRow
RowOf name.Deposit = DepositRow
RowOf name.Reader = ReaderRow
RowOf name.Tally = TallyRow
RowOf name.GroupReader = ReaderRow
RowOf name.Identity = InstalledRow

-- what such a row says
abbrev pub cells_of : (n : Name) → RowOf n → Row
cells_of name.Meta = version_cells
cells_of name.Stamp = stamp_cells
cells_of name.Calibration = calibration_cells
cells_of name.Hold = hold_cells
cells_of name.Deposit = deposit_cells
cells_of name.Reader = reader_cells
cells_of name.Tally = tally_cells
cells_of name.GroupReader = reader_cells
cells_of name.Identity = identity_cells

-- whether its rowid is its key
abbrev pub is_keyed : Name → Bool
is_keyed name.Meta = false
is_keyed name.Reader = false
is_keyed name.Tally = false
is_keyed name.GroupReader = false
is_keyed _ = true

-- the tree of its rows: 5, 7, 9 and 11 are of the indexes of the tables before them
abbrev pub tree_of : Name → ℕ
tree_of name.Meta = 0
tree_of name.Stamp = 1
tree_of name.Calibration = 2
tree_of name.Hold = 3
tree_of name.Deposit = 4
tree_of name.Reader = 6
tree_of name.Tally = 8
tree_of name.GroupReader = 10
tree_of name.Identity = 12

-- its place among the tables of the schema
abbrev pub place_of : Name → ℕ
place_of n = length (filter (λ other. nat_lt (tree_of other) (tree_of n)) names)

-- its rows where the schema has this version
abbrev pub rows_of : ℕ → (n : Name) → Tables → List (RowOf n)
rows_of version name.Meta t = version ∷ []
rows_of version name.Stamp t = t.stamps
rows_of version name.Calibration t = t.calibrations
rows_of version name.Hold t = t.holds
rows_of version name.Deposit t = t.deposits
rows_of version name.Reader t = t.readers
rows_of version name.Tally t = t.tallies
rows_of version name.GroupReader t = t.group_readers
rows_of version name.Identity t = t.identities

-- the table of a name holds its rows
abbrev pub HoldsAt : ℕ → Name → Tables → Trees → Type 0
HoldsAt version n t db = AreRows (is_keyed n) (cells_of n) (rows_of version n t) (db (tree_of n))

-- each table that a version of the schema has holds its rows
pub record HoldsIn (version : ℕ) (t : Tables) (db : Trees) : Type 0 where
  pub rows : (n : Name) → IsTrue (nat_le (first_version n) version) → HoldsAt version n t db
  -- as a column of INTEGER has them
  pub counts : AllByRecursion (λ row. row.count < 2 ^ 63) t.tallies

abbrev pub Holds : Tables → Trees → Type 0
Holds = HoldsIn the_version

-- no table that a later version has first holds a row
abbrev pub HoldsNoLater : ℕ → Tables → Type 0
HoldsNoLater version t = (n : Name) → IsTrue (nat_lt version (first_version n)) → rows_of version n t ≡ []

-- the tables, in trees whose catalog lists our schema: what an opening finds is known by them
pub record IsStored (t : Tables) (db : Trees) : Type 0 where
  pub holds : Holds t db
  pub listed : IsSound the_schema db

-- the schema is ours too
pub record IsDatabaseOf (t : Tables) (d : Database) : Type 0 where
  pub schema : d.schema ≡ the_schema
  pub holds : Holds t d.trees

-- the same of an earlier version of the schema
pub record IsStoredIn (version : ℕ) (t : Tables) (db : Trees) : Type 0 where
  pub holds : HoldsIn version t db
  pub later : HoldsNoLater version t
  pub listed : IsSound (schema_of version) db

pub record IsDatabaseIn (version : ℕ) (t : Tables) (d : Database) : Type 0 where
  pub schema : d.schema ≡ schema_of version
  pub holds : HoldsIn version t d.trees
  pub later : HoldsNoLater version t

-- on the way to a later version: its tables are made, and `meta` says another's number
pub record IsOnTheWay (version : ℕ) (t : Tables) (d : Database) : Type 0 where
  pub schema : d.schema ≡ schema_of version
  pub says : ℕ
  pub rows : (n : Name) → IsTrue (nat_le (first_version n) version) → HoldsAt says n t d.trees
  pub later : HoldsNoLater version t
  pub counts : AllByRecursion (λ row. row.count < 2 ^ 63) t.tallies
