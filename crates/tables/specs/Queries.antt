-- What the queries show of a row.
use Rattle.std.specs.Prelude.{◌≡◌, ◌==◌, ℕ, ℤ, ◌&&◌, Bool, List, Option, Result, IfOk, IfErr, OnOk, int_le, int_lt}
use Rattle.std.specs.Prelude.{nat_le, nat_lt, bytes_eq, String, string_bytes}
use Rattle.std.specs.declared.alloc.Global.{Global}
use Rattle.sqlite_value.specs.Order.{Row}
use Rattle.sqlite.specs.Held.{state}
use Rattle.sqlite_trees.specs.{Tree.Trees, declared.store.Store.Ghosts}
use Rattle.tables.specs.QueryAnswers.{IsQueryText, StaysUsable, TellsFirst, TellsRows, IsReadAs, AreReadAs}
use Rattle.tables.specs.Tables.{Tables, StampRow, CalibrationRow, HoldRow, TallyRow, DepositRow, ReaderRow}
use Rattle.tables.specs.Base.{BaseValue, IsHonest, IsOpen, Keeps, Recovers}
use Rattle.tables.specs.{Changes.IsCounted, Layout.Holds, Tables.InstalledRow, declared.fault.TableFault.TableFault}
use Rattle.tables.specs.{declared.rows.LastStamp.LastStamp, declared.rows.NumberedCalibration.NumberedCalibration}
use Rattle.book.specs.declared.rows.IdentityRow.{IdentityRow}
use Rattle.book.specs.{declared.rows.Stamp.Stamp, declared.rows.Deposit.Deposit, declared.values.Hold.Hold}
pub use Rattle.book.specs.Values.{stamp_view, deposit_view, identity_view}
use Rattle.tables.specs.{declared.rows.Label.Label, declared.rows.Origin.Origin}

-- a look-up leaves what the tables are, what a crash may leave, and a connection that is as usable as it was
pub record OnlyReads {S : Type 0} (g : Ghosts S) (old new : BaseValue S) : Type 0 where
  pub honest : IsHonest g new → IsHonest g old
  pub kept : (t : Tables) → Keeps g t old → Keeps g t new
  pub leaves : IsHonest g new → (db : Trees) → Recovers g new db → Recovers g old db
  pub usable : StaysUsable (state g old.conn) (state g new.conn)

-- a look-up, and what its answer tells of the tables
pub record LooksUp {S X : Type 0} (g : Ghosts S) (Tells : Tables → X → Type 0) (old new : BaseValue S)
    (result : Result X TableFault) : Type 0 where
  pub reads : OnlyReads g old new
  pub opened : IsHonest g new → OnOk result (IsOpen g old)
  pub value : IsHonest g new → (t : Tables) → Keeps g t old → IfOk result (Tells t)
  pub counted : IfErr result (λ e. IsCounted e old.faults new.faults)
  pub uncounted : OnOk result (new.faults ≡ old.faults)

-- what a query's first row tells of the tables, where the text reads them alone, and what is read of it
abbrev pub TellsRow : List ℕ → Row → Tables → Option Row → Type 0
TellsRow sql params t row = (db : Trees) × Holds t db × (IsQueryText sql → TellsFirst sql params db row)

abbrev pub TellsAs : {Y : Type 0} → (Row → Y → Type 0) → List ℕ → Row → Tables → Option Y → Type 0
TellsAs Shows sql params t found = (row : Option Row) × TellsRow sql params t row × IsReadAs Shows row found

-- and all its rows
abbrev pub TellsAll : List ℕ → Row → Tables → List Row → Type 0
TellsAll sql params t rows = (db : Trees) × Holds t db × (IsQueryText sql → TellsRows sql params db rows)

abbrev pub TellsAllAs : {Y : Type 0} → (Row → Y → Type 0) → List ℕ → Row → Tables → List Y → Type 0
TellsAllAs Shows sql params t found = (rows : List Row) × TellsAll sql params t rows × AreReadAs Shows rows found

abbrev pub ShowsLast : StampRow → LastStamp → Type 0
ShowsLast row last = last ≡ record { serial = row.serial; gen_time = row.gen_time }

abbrev pub ShowsCalibration : CalibrationRow → NumberedCalibration → Type 0
ShowsCalibration row c = (c.n ≡ row.n) × (c.reading ≡ row.reading) × (c.offset ≡ row.offset)
    × (c.uncertainty ≡ row.uncertainty)

abbrev pub ShowsNumber : HoldRow → ℕ → Type 0
ShowsNumber row n = n ≡ row.n

abbrev pub ShowsHold : HoldRow → Hold → Type 0
ShowsHold row h = (h.from ≡ row.from) × (h.to ≡ row.to)

abbrev pub ShowsCount : TallyRow → ℕ → Type 0
ShowsCount row count = count ≡ row.count

abbrev pub holds_at : ℤ → HoldRow → Bool
holds_at now row = int_le row.from now && int_lt now row.to

abbrev pub ShowsStamp : StampRow → Stamp → Type 0
ShowsStamp row s = stamp_view s ≡ row

abbrev pub ShowsDeposit : DepositRow → Deposit → Type 0
ShowsDeposit row d = deposit_view d ≡ row

-- a deposit's number and reference
pub record LabelValue : Type 0 where
  pub serial : ℕ
  pub reference : List ℕ

abbrev pub label_of : DepositRow → LabelValue
label_of row = record { serial = row.serial; reference = row.reference }

abbrev pub label_view : Label → LabelValue
label_view label = record { serial = label.serial; reference = string_bytes label.reference }

abbrev pub ShowsReference : DepositRow → String Global → Type 0
ShowsReference row reference = string_bytes reference ≡ row.reference

-- whose stamp it is, and of when
abbrev pub ShowsOrigin : StampRow → Origin → Type 0
ShowsOrigin row origin = (string_bytes origin.account ≡ row.account) × (origin.gen_time ≡ row.gen_time)

abbrev pub ShowsIdentity : InstalledRow → IdentityRow → Type 0
ShowsIdentity row i = identity_view i ≡ row

abbrev pub ShowsDepositSerial : DepositRow → ℕ → Type 0
ShowsDepositSerial row serial = serial ≡ row.serial

abbrev pub ShowsReaderSerial : ReaderRow → ℕ → Type 0
ShowsReaderSerial row serial = serial ≡ row.serial

abbrev pub is_within : ℕ → ℕ → StampRow → Bool
is_within from to row = nat_le from row.serial && nat_le row.serial to

abbrev pub is_owned_after : List ℕ → ℕ → DepositRow → Bool
is_owned_after owner after row = bytes_eq row.owner owner && nat_lt after row.serial

abbrev pub is_readable_after : List ℕ → ℕ → ReaderRow → Bool
is_readable_after name after row = bytes_eq row.name name && nat_lt after row.serial

abbrev pub is_owned_by : List ℕ → DepositRow → Bool
is_owned_by owner row = bytes_eq row.owner owner

abbrev pub is_owned : ℕ → List ℕ → DepositRow → Bool
is_owned serial owner row = (row.serial == serial) && bytes_eq row.owner owner
