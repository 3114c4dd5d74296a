-- The tables of a history: what each of them holds is what the history says.
use Rattle.std.specs.Prelude.{ℕ, ◌+◌, not, List, [], ◌∷◌, length, map, filter, filter_map, Option, None, Some}
use Rattle.std.specs.{Prelude.if◌then◌else◌, List.list_any}
use Rattle.tables.specs.Changes.{calibration_row, hold_row}
use Rattle.tables.specs.Tables.{Tables, ReaderRow, TallyRow, is_reader_row}
use Rattle.book.specs.History.{Entry, Granted, History}
use Rattle.book.specs.History.{ReservationValue, stamps, calibrations, holds, deposits}
use Rattle.book.specs.History.{reservations, day_of, is_of_day, count_of_day}
use Rattle.book.specs.{Identities.installed_rows, Readers.Account, Readers.Group, Rights.is_reader}

-- calibrations and holds are numbered 1, 2, 3 in the order of their entries, the newest of which comes first
abbrev pub numbered : {X Y : Type 0} → (X → ℕ → Y) → List X → List Y
numbered row [] = []
numbered row (x ∷ xs) = row x (length xs + 1) ∷ numbered row xs

-- the rights of accounts that were ever granted, as rows, and those of groups
abbrev pub granted_in : Entry → Option ReaderRow
granted_in (Granted number (Account name)) = Some (record { serial = number; name = name })
granted_in _ = None

abbrev pub group_granted_in : Entry → Option ReaderRow
group_granted_in (Granted number (Group name)) = Some (record { serial = number; name = name })
group_granted_in _ = None

-- each of them once
abbrev pub once : List ReaderRow → List ReaderRow
once [] = []
once (row ∷ rows) = row ∷ filter (λ other. not (is_reader_row row.serial row.name other)) (once rows)

-- a reader row stands where the last entry about deposit and account is a grant
abbrev pub readers_of : History → List ReaderRow
readers_of b = filter (λ row. is_reader row.serial (Account row.name) b) (once (filter_map granted_in b))

-- and one of a group where the last entry about deposit and group is
abbrev pub group_readers_of : History → List ReaderRow
group_readers_of b = filter (λ row. is_reader row.serial (Group row.name) b) (once (filter_map group_granted_in b))

-- the first reservation of each account and day
abbrev pub firsts : List ReservationValue → List ReservationValue
firsts [] = []
firsts (r ∷ rs) = if list_any (is_of_day r.account (day_of r.gen_time)) rs then firsts rs else r ∷ firsts rs

-- a tally row stands for an account and a day with reservations, and counts them
abbrev pub tally_of : History → ReservationValue → TallyRow
tally_of b r = record {
  account = r.account;
  day = day_of r.gen_time;
  count = count_of_day r.account (day_of r.gen_time) b;
}

abbrev pub tables_of : History → Tables
tables_of b = record {
  stamps = stamps b;
  calibrations = numbered calibration_row (calibrations b);
  holds = numbered hold_row (holds b);
  deposits = deposits b;
  readers = readers_of b;
  tallies = map (tally_of b) (firsts (reservations b));
  group_readers = group_readers_of b;
  identities = installed_rows b;
}
