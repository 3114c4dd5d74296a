-- Who sees which deposit: its owner, and its current readers, which are those whose last entry about it is a grant.
use Rattle.std.specs.Prelude.{ℕ, ◌==◌, ◌&&◌, ◌||◌, Bool, false, List, filter_map, find, Option, Some, None, option_map}
use Rattle.std.specs.Prelude.{option_and_then, if◌then◌else◌}
use Rattle.std.specs.{Option.is_some, Str.bytes_eq, List.list_any, List.range_with_len}
use Rattle.book.specs.{Rows.DepositRow, Rows.StampRow, History.deposit_at, History.stamp_at}
use Rattle.book.specs.Readers.{Reader, is_same, Viewer, readers_as}
use Rattle.book.specs.History.{History, RightValue, rights, ReservationValue, greatest_serial, reservation_at}

-- the right is this reader's to this deposit
abbrev pub is_about : ℕ → Reader → RightValue → Bool
is_about number reader right = (right.number == number) && is_same right.reader reader

abbrev pub gives : Option RightValue → Bool
gives None = false
gives (Some right) = right.is_given

-- whether the last entry about the deposit and the reader is a grant
abbrev pub is_reader : ℕ → Reader → History → Bool
is_reader number reader b = gives (find (is_about number reader) (rights b))

-- whether who asks reads the deposit, as one of its current readers
abbrev pub may_read : Viewer → ℕ → History → Bool
may_read viewer number b = list_any (λ reader. is_reader number reader b) (readers_as viewer)

-- a deposit, for who reads it or doesn't
abbrev pub shown_to : Viewer → Bool → DepositRow → Option DepositRow
shown_to viewer reads d = if bytes_eq d.owner viewer.name || reads then Some d else None

-- the one word for who sees what: the deposit with that number, where it is visible to who asks, and else nothing
abbrev pub seen_by : Viewer → ℕ → History → Option DepositRow
seen_by viewer number b = option_and_then (shown_to viewer (may_read viewer number b)) (deposit_at number b)

-- the deposit with that number is the account's own
abbrev pub is_of : List ℕ → Option DepositRow → Bool
is_of account None = false
is_of account (Some d) = bytes_eq d.owner account

abbrev pub is_own : List ℕ → ℕ → History → Bool
is_own account number b = is_of account (deposit_at number b)

abbrev pub is_visible : Viewer → ℕ → History → Bool
is_visible viewer number b = is_some (seen_by viewer number b)

-- what a list shows of a deposit
pub record ListedValue : Type 0 where
  pub number : ℕ
  pub owner : List ℕ
  pub reference : List ℕ
  pub gen_time : ℕ

abbrev pub listed_as : DepositRow → ReservationValue → ListedValue
listed_as d r = record { number = d.serial; owner = d.owner; reference = d.reference; gen_time = r.gen_time }

-- a deposit that who asks sees, with the genTime of its stamp
abbrev pub listed_at : Viewer → History → ℕ → Option ListedValue
listed_at viewer b number =
    option_and_then (λ d. option_map (listed_as d) (reservation_at number b)) (seen_by viewer number b)

-- all that who asks sees, by number
abbrev pub listed : Viewer → History → List ListedValue
listed viewer b = filter_map (listed_at viewer b) (range_with_len 1 (greatest_serial b))

-- a deposit with its stamp
abbrev pub deposit_with_stamp : ℕ → History → Option (DepositRow × StampRow)
deposit_with_stamp number b = option_and_then (λ d. option_map (λ s. (d, s)) (stamp_at number b)) (deposit_at number b)
