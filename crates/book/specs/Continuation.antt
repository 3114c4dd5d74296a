-- A history that goes on in a new book: how the old one is closed, and with which entries the new one begins.
use Rattle.std.specs.Prelude.{◌≡◌, ℕ, ◌<◌, ◌≤◌, pos, int_le, Bool, not, ◌&&◌, List, [], ◌∷◌, ◌++◌, map, filter, reverse}
use Rattle.std.specs.{Prelude.Option, Prelude.Some, Prelude.None, Prelude.if◌then◌else◌, List.list_any}
use Rattle.gentime.specs.GenTime.{last_moment}
use Rattle.book.specs.{Entries.with_all, Sound.greatest_number, Identities.identity_at_reservation}
use Rattle.book.specs.History.{Entry, Reserved, Sealed, Calibrated, Held, Installed, History, HoldValue}
use Rattle.book.specs.History.{ReservationValue, InstalledValue, reservations, holds, first_of, greatest_serial}
use Rattle.book.specs.History.{latest_calibration, token_of}

-- ---- the old book

-- a hold of all moments: while there is one, no stamp is given
abbrev pub holds_all : HoldValue → Bool
holds_all h = int_le h.from (pos 0) && int_le (pos greatest_number) h.to

abbrev pub is_closed : History → Bool
is_closed b = list_any holds_all (holds b)

abbrev pub all_moments : HoldValue
all_moments = record { from = pos 0; to = pos greatest_number }

-- the history with such a hold
abbrev pub closed : History → History
closed b = if is_closed b then b else Held all_moments ∷ b

-- ---- the new one

-- the other holds, the newest first
abbrev pub other_holds : History → List HoldValue
other_holds b = filter (λ h. not (holds_all h)) (holds b)

abbrev pub last_reservation : History → Option ReservationValue
last_reservation b = first_of (reservations b)

-- the identity that was installed last since the last reservation
abbrev pub identity_since : History → Option InstalledValue
identity_since [] = None
identity_since (Reserved r ∷ b) = None
identity_since (Installed i ∷ b) = Some i
identity_since (_ ∷ b) = identity_since b

-- What stands in place of the last stamp where later ones may have been given than the history has: a serial number
-- and a genTime that none of them was above or after, and the TSTInfo that says them.
pub record Floor : Type 0 where
  pub serial : ℕ
  pub gen_time : ℕ
  pub tst : List ℕ

-- the last stamp as it stands, with its token where it has one, or a void one in its place
abbrev pub reserved_as : Option Floor → ReservationValue → ReservationValue
reserved_as None r = r
reserved_as (Some floor) r = record r { serial = floor.serial; gen_time = floor.gen_time; tst = floor.tst }

abbrev pub token_as : Option Floor → ReservationValue → History → Option (List ℕ)
token_as None r b = token_of r.serial b
token_as (Some floor) r b = None

-- an entry, where there is what it is of
abbrev pub entry_if : {X : Type 0} → (X → Entry) → Option X → List Entry
entry_if entry None = []
entry_if entry (Some x) = entry x ∷ []

abbrev pub last_stamp : Option Floor → ReservationValue → History → List Entry
last_stamp floor r b = Reserved (reserved_as floor r) ∷ entry_if (Sealed r.serial) (token_as floor r b)

-- behind the identity that was in force when it was reserved
abbrev pub stamp_with_identity : Option Floor → Option ReservationValue → History → List Entry
stamp_with_identity floor None b = []
stamp_with_identity floor (Some r) b =
    entry_if Installed (identity_at_reservation r.serial b) ++ last_stamp floor r b

-- The entries with which the new book begins, the first of them first: the latest calibration, the other holds, the
-- last stamp behind its identity, and the latest identity where that is another's.
abbrev pub first_entries : Option Floor → History → List Entry
first_entries floor b =
    entry_if Calibrated (latest_calibration b) ++ (map Held (reverse (other_holds b))
    ++ (stamp_with_identity floor (last_reservation b) b ++ entry_if Installed (identity_since b)))

-- the history of the new book
abbrev pub continued : Option Floor → History → History
continued floor b = with_all (first_entries floor b) []

-- A floor is above each serial number that is reserved, and not before the last genTime. It takes the request of a last
-- stamp.
pub record IsAbove (floor : Floor) (b : History) : Type 0 where
  pub last : ReservationValue
  pub reserved : last_reservation b ≡ Some last
  pub rises : greatest_serial b < floor.serial
  pub within : floor.serial ≤ greatest_number
  pub follows : last.gen_time ≤ floor.gen_time
  pub moment : floor.gen_time ≤ last_moment

abbrev pub IsAboveIfAny : Option Floor → History → Type 0
IsAboveIfAny None b = Unit {0}
IsAboveIfAny (Some floor) b = IsAbove floor b
