-- What the calls make of a look-up's answer: stepping stones, no definitions.
use Rattle.std.specs.Prelude.{◌≡◌, ℕ, ◌<◌, ◌&&◌, min, nat_lt, nat_le, if◌then◌else◌, Bool, true, false}
use Rattle.std.specs.Prelude.{List, [], ◌∷◌, length, map, get_or, IfSome, Option, Some, None, option_map}
use Rattle.std.specs.{Prelude.option_and_then, Prelude.string_bytes, Option.unwrap_or}
use Rattle.tables.specs.Queries.{label_of, label_view, is_owned_by}
use Rattle.tables.specs.{Found.AreFoundAs, declared.rows.Label.Label, declared.rows.LastStamp.LastStamp}
use Rattle.tables.specs.{declared.rows.NumberedCalibration.NumberedCalibration, declared.rows.Origin.Origin}
use Rattle.book.specs.History.{CalibrationValue, ReservationValue, History, deposit_at, reservation_at}
use Rattle.book.specs.Readers.{Reader, Account, Group, Viewer}
use Rattle.book.specs.Rights.{ListedValue, listed_as, is_reader, is_visible}
use Rattle.book.specs.{declared.rows.Stamp.Stamp, Sound.greatest_number, Rows.DepositRow, declared.values.Last.Last}
use Rattle.store.specs.{auxiliary.Replay.replayed, declared.labels.Owned.Owned}

abbrev pub last_from : Option LastStamp → Last
last_from None = record { serial = 0; gen_time = None }
last_from (Some stamp) = record { serial = stamp.serial; gen_time = Some stamp.gen_time }

abbrev pub calibration_from : NumberedCalibration → CalibrationValue
calibration_from c = record { reading = c.reading; offset = c.offset; uncertainty = c.uncertainty }

-- how many there are, by the greatest of their numbers
abbrev pub count_of : Option ℕ → ℕ
count_of found = unwrap_or found 0

-- the least number after another that passes a test, if there is one
abbrev pub IsNextOf : (ℕ → Bool) → ℕ → Option ℕ → Type 0
IsNextOf test after None = (number : ℕ) → after < number → test number ≡ false
IsNextOf test after (Some next) =
    (after < next) × (test next ≡ true)
    × ((number : ℕ) → after < number → number < next → test number ≡ false)

-- the first deposit after a number that who asks sees
abbrev pub IsNextSeen : Viewer → ℕ → History → Option ℕ → Type 0
IsNextSeen viewer after b next = IsNextOf (λ number. is_visible viewer number b) after next

-- the first deposit after a number that a reader reads
abbrev pub IsNextReadable : Reader → ℕ → History → Option ℕ → Type 0
IsNextReadable reader after b next = IsNextOf (λ number. is_reader number reader b) after next

-- What is known of a cursor, which is what was found of a reader's deposits: where there is none, or it is after a
-- number, it is the first of them after that number.
abbrev pub IsCursor : Reader → ℕ → History → Option ℕ → Type 0
IsCursor reader after b found = IfSome found (λ number. after < number) → IsNextReadable reader after b found

-- of an account its own, and of each of its groups one
abbrev pub AreCursors : Viewer → ℕ → History → Option ℕ → List (Option ℕ) → Type 0
AreCursors viewer after b own shared =
    IsCursor (Account viewer.name) after b own
    × ((k : ℕ) → k < length viewer.groups
    → IsCursor (Group (get_or viewer.groups k [])) after b (get_or shared k None))

abbrev pub AreNextReadable : Viewer → ℕ → History → Option ℕ → List (Option ℕ) → Type 0
AreNextReadable viewer after b own shared =
    IsNextReadable (Account viewer.name) after b own
    × ((k : ℕ) → k < length viewer.groups
    → IsNextReadable (Group (get_or viewer.groups k [])) after b (get_or shared k None))

-- the lesser of what is there
abbrev pub least_of : Option ℕ → Option ℕ → Option ℕ
least_of None other = other
least_of (Some n) None = Some n
least_of (Some n) (Some m) = Some (min n m)

abbrev pub least_in : Option ℕ → List (Option ℕ) → Option ℕ
least_in least [] = least
least_in least (number ∷ numbers) = least_in (least_of least number) numbers

-- a number, where it is after another and may be a serial number
abbrev pub later_of : ℕ → Option ℕ → Option ℕ
later_of after None = None
later_of after (Some n) = if nat_lt after n && nat_le n greatest_number then Some n else None

-- what a list shows of a deposit, whoever asks
abbrev pub listing_at : ℕ → History → Option ListedValue
listing_at number b = option_and_then (λ d. option_map (listed_as d) (reservation_at number b)) (deposit_at number b)

-- the account and the genTime of a reservation, if there is one
abbrev pub IsOriginOf : ℕ → History → Option Origin → Type 0
IsOriginOf serial b None = reservation_at serial b ≡ None
IsOriginOf serial b (Some origin) =
    (r : ReservationValue) × (reservation_at serial b ≡ Some r) × (string_bytes origin.account ≡ r.account)
    × (origin.gen_time ≡ r.gen_time)

-- a stamp, where its serial number is in the range
abbrev pub only_within : ℕ → ℕ → Option Stamp → Option Stamp
only_within from to None = None
only_within from to (Some stamp) = if nat_le from stamp.serial && nat_le stamp.serial to then Some stamp else None

-- what was looked up of an owner's deposits is all of them
abbrev pub AreLabels : List ℕ → List DepositRow → List Label → Type 0
AreLabels owner rows labels =
    AreFoundAs label_of (λ label. label.serial) (is_owned_by owner) rows (map label_view labels)

-- and so it is of each owner that is known
abbrev pub AreOwned : History → List Owned → Type 0
AreOwned b known =
    (k : ℕ) (d : Owned) → k < length known
    → AreLabels (string_bytes (get_or known k d).owner) (replayed b).deposits (get_or known k d).labels.items
