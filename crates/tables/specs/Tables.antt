-- What the tables of the database hold: a record for each row, a list for each table, and the step that each change
-- takes. The order of a list says nothing. Moments and offsets are whole microseconds from 1970-01-01T00:00:00Z, days
-- whole days from it, and texts, object identifiers and blobs are their octets.
use Rattle.std.specs.Prelude.{ℕ, ◌+◌, ℤ, Bool, not, ◌&&◌, ◌==◌, if◌then◌else◌, List, [], ◌∷◌, map, filter, bytes_eq}
use Rattle.std.specs.{Prelude.Some, List.list_any}
use Rattle.book.specs.Readers.{Reader, Account, Group}
pub use Rattle.book.specs.Rows.{StampRow, DepositRow, InstalledRow}

pub record CalibrationRow : Type 0 where
  pub n : ℕ
  pub reading : ℤ
  pub offset : ℤ
  pub uncertainty : ℕ

-- no token is given from the one moment on and before the other
pub record HoldRow : Type 0 where
  pub n : ℕ
  pub from : ℤ
  pub to : ℤ

-- who may read a deposit, by name
pub record ReaderRow : Type 0 where
  pub serial : ℕ
  pub name : List ℕ

-- how many stamps an account has reserved on a day
pub record TallyRow : Type 0 where
  pub account : List ℕ
  pub day : ℕ
  pub count : ℕ

-- `meta` is left out: it has one row, with the schema's version
pub record Tables : Type 0 where
  pub stamps : List StampRow
  pub calibrations : List CalibrationRow
  pub holds : List HoldRow
  pub deposits : List DepositRow
  -- accounts
  pub readers : List ReaderRow
  pub tallies : List TallyRow
  -- groups, whose members read
  pub group_readers : List ReaderRow
  -- who signed, in turn
  pub identities : List InstalledRow

abbrev pub no_rows : Tables
no_rows = record {
  stamps = [];
  calibrations = [];
  holds = [];
  deposits = [];
  readers = [];
  tallies = [];
  group_readers = [];
  identities = [];
}

-- ---- which row

abbrev pub is_stamp : ℕ → StampRow → Bool
is_stamp serial row = row.serial == serial

abbrev pub is_tally_of : List ℕ → ℕ → TallyRow → Bool
is_tally_of account day row = bytes_eq row.account account && (row.day == day)

abbrev pub is_reader_row : ℕ → List ℕ → ReaderRow → Bool
is_reader_row serial name row = (row.serial == serial) && bytes_eq row.name name

abbrev pub is_deposit : ℕ → DepositRow → Bool
is_deposit serial row = row.serial == serial

abbrev pub is_calibration : ℕ → CalibrationRow → Bool
is_calibration number row = row.n == number

abbrev pub is_hold : ℕ → HoldRow → Bool
is_hold number row = row.n == number

abbrev pub is_identity : ℕ → InstalledRow → Bool
is_identity number row = row.number == number

abbrev pub is_deposit_of : List ℕ → List ℕ → DepositRow → Bool
is_deposit_of owner reference row = bytes_eq row.owner owner && bytes_eq row.reference reference

-- ---- the steps

abbrev pub raised_row : List ℕ → ℕ → TallyRow → TallyRow
raised_row account day row = if is_tally_of account day row then record row { count = row.count + 1 } else row

-- one more for the account on the day, which may have been the first
abbrev pub with_one_more : List ℕ → ℕ → List TallyRow → List TallyRow
with_one_more account day rows =
    if list_any (is_tally_of account day) rows then map (raised_row account day) rows
    else record { account = account; day = day; count = 1 } ∷ rows

-- a reservation, which counts for its account and day
abbrev pub with_stamp : StampRow → Tables → Tables
with_stamp row t = record t { stamps = row ∷ t.stamps; tallies = with_one_more row.account row.day t.tallies }

abbrev pub sealed_row : ℕ → List ℕ → StampRow → StampRow
sealed_row serial token row = if is_stamp serial row then record row { token = Some token } else row

abbrev pub with_token : ℕ → List ℕ → Tables → Tables
with_token serial token t = record t { stamps = map (sealed_row serial token) t.stamps }

abbrev pub with_deposit : DepositRow → Tables → Tables
with_deposit row t = record t { deposits = row ∷ t.deposits }

abbrev pub with_calibration : CalibrationRow → Tables → Tables
with_calibration row t = record t { calibrations = row ∷ t.calibrations }

abbrev pub with_hold : HoldRow → Tables → Tables
with_hold row t = record t { holds = row ∷ t.holds }

abbrev pub with_identity : InstalledRow → Tables → Tables
with_identity row t = record t { identities = row ∷ t.identities }

-- The right of a name to a deposit, taken, and given: it is there once, however often it is given.
abbrev pub without_name : ℕ → List ℕ → List ReaderRow → List ReaderRow
without_name serial name rows = filter (λ row. not (is_reader_row serial name row)) rows

abbrev pub with_name : ℕ → List ℕ → List ReaderRow → List ReaderRow
with_name serial name rows = record { serial = serial; name = name } ∷ without_name serial name rows

-- a change of the rights of accounts, where the reader is one
abbrev pub if_account : Reader → (List ℕ → List ReaderRow → List ReaderRow) → List ReaderRow → List ReaderRow
if_account (Account name) change rows = change name rows
if_account (Group name) change rows = rows

-- and of groups
abbrev pub if_group : Reader → (List ℕ → List ReaderRow → List ReaderRow) → List ReaderRow → List ReaderRow
if_group (Account name) change rows = rows
if_group (Group name) change rows = change name rows

abbrev pub changed_right : Reader → (List ℕ → List ReaderRow → List ReaderRow) → Tables → Tables
changed_right reader change t = record t {
  readers = if_account reader change t.readers;
  group_readers = if_group reader change t.group_readers;
}

abbrev pub without_right : ℕ → Reader → Tables → Tables
without_right serial reader t = changed_right reader (without_name serial) t

abbrev pub with_right : ℕ → Reader → Tables → Tables
with_right serial reader t = changed_right reader (with_name serial) t

-- one of two things, by what a reader is
abbrev pub by_kind : {X : Type 0} → Reader → X → X → X
by_kind (Account name) account group = account
by_kind (Group name) account group = group

-- the rights of accounts, and of groups
abbrev pub rights_of : Reader → Tables → List ReaderRow
rights_of reader t = by_kind reader t.readers t.group_readers

abbrev pub name_of : Reader → List ℕ
name_of (Account name) = name
name_of (Group name) = name
