-- How a history goes on in a new book: what is carried on from the old one, with which entries the new one begins, and
-- how the old one is closed for tokens.
use Rattle.std.specs.Prelude.{◌≡◌, ◌⊎◌, ℕ, ◌<◌, ◌≤◌, not, nat_lt, List, [], ◌∷◌, ◌++◌, map, filter, reverse}
use Rattle.std.specs.Prelude.{Option, None, Some, option_map, if◌then◌else◌, Result, Ok, Err, MatchResult, OnOk, OnErr}
use Rattle.std.specs.List.{Contains}
use Rattle.book.specs.Continuation.{Floor as Void, IsAbove, IsAboveIfAny, closed, continued, entry_if, holds_all}
use Rattle.book.specs.History.{Entry, Reserved, Sealed, Calibrated, Held, Installed, History, HoldValue}
use Rattle.book.specs.History.{ReservationValue, greatest_serial, holds, last_gen_time}
use Rattle.book.specs.History.{latest_calibration, reservations, stamp_of, token_of, first_of}
use Rattle.book.specs.Identities.{identities, identity_before, installed_as}
use Rattle.book.specs.Values.{calibration_option, hold_view, identity_view, stamp_view}
use Rattle.book.specs.declared.fault.StoreFault.{StoreFault}
use Rattle.book.specs.{Continuation.last_reservation, Rows.InstalledRow, Rows.StampRow, Sound.Along, Sound.IsSound}
use Rattle.book.specs.{Stands.OnlyLooks, Stands.Stands, declared.standing.Standing.Ghosts}
use Rattle.desk.specs.{Closed.GivesNothingOut, Closed.StaysClosed, Command.Command, Command.Setting}
use Rattle.desk.specs.{Content.IsSoundInFull, Continuation.IsStatedIfAny, Effects.Effect, MachineRuns.IsRising}
use Rattle.desk.specs.{MachineRuns.Journey, MachineStep.HasEffect, Outcome.Outcome}
use Rattle.operations.specs.VoidStamp.{IsVoidIfAny, reserved_as, reserved_in_place, void_view}
use Rattle.operations.specs.declared.fault.ContinuationFault.TheVariants.{Unopened, Unclosed, NotAfter, Unfinished}
use Rattle.operations.specs.{DatabaseFaults.IsOpeningFault, declared.carried.Carried.Carried}
use Rattle.operations.specs.{declared.fault.ContinuationFault.ContinuationFault, declared.void_stamp.Floor.Floor}

-- ---- what is carried on

abbrev pub last_stamp_of : History → Option StampRow
last_stamp_of b = option_map (λ r. stamp_of (token_of r.serial b) r) (last_reservation b)

-- what was looked up is what the history has
pub record IsCarried (c : Carried) (b : History) : Type 0 where
  pub calibration : calibration_option c.calibration ≡ latest_calibration b
  pub holds : map hold_view c.holds.items ≡ reverse (holds b)
  pub stamp : option_map stamp_view c.stamp ≡ last_stamp_of b
  pub identities : map identity_view c.identities.items ≡ identities b

abbrev pub void_in : Carried → Option Void
void_in c = option_map void_view c.void

-- a void stamp comes in place of the last one exactly where it is asked for
abbrev pub IsAskedFor : Option Floor → Carried → Type 0
IsAskedFor floor c = IsVoidIfAny floor (option_map stamp_view c.stamp) (void_in c)

-- ---- the first entries of the new book

-- a stamp as it stands, with its token where it has one
abbrev pub entries_of_sealed : StampRow → List Entry
entries_of_sealed s = Reserved (reserved_as s) ∷ entry_if (Sealed s.serial) s.token

-- or the void one in its place
abbrev pub entries_of_stamp : Option Void → StampRow → List Entry
entries_of_stamp None s = entries_of_sealed s
entries_of_stamp (Some void) s = Reserved (reserved_in_place void s) ∷ []

abbrev pub entries_of_identity : Option InstalledRow → List Entry
entries_of_identity row = entry_if Installed (option_map installed_as row)

-- a hold of all moments stays behind
abbrev pub entries_of_hold : HoldValue → List Entry
entries_of_hold h = if holds_all h then [] else Held h ∷ []

abbrev pub entries_of_holds : List HoldValue → List Entry
entries_of_holds hs = map Held (filter (λ h. not (holds_all h)) hs)

-- behind the identity that was in force when it was reserved, one of these by number
abbrev pub entries_of_last : Option Void → Option StampRow → List InstalledRow → List Entry
entries_of_last void None rows = []
entries_of_last void (Some s) rows = entries_of_identity (identity_before s.serial rows) ++ entries_of_stamp void s

-- an identity that was installed since
abbrev pub since : Option StampRow → InstalledRow → Option InstalledRow
since None row = Some row
since (Some s) row = if nat_lt row.after_serial s.serial then None else Some row

-- the latest of them by number, where it was installed since the last stamp
abbrev pub identity_since_among : Option StampRow → Option InstalledRow → Option InstalledRow
identity_since_among stamp None = None
identity_since_among stamp (Some row) = since stamp row

abbrev pub latest_of : List InstalledRow → Option InstalledRow
latest_of rows = first_of (reverse rows)

abbrev pub entries_of : Carried → List Entry
entries_of c =
    let stamp = option_map stamp_view c.stamp in
    let rows = map identity_view c.identities.items in
    entry_if Calibrated (calibration_option c.calibration) ++ (entries_of_holds (map hold_view c.holds.items)
    ++ (entries_of_last (void_in c) stamp rows ++ entries_of_identity (identity_since_among stamp (latest_of rows))))

-- ---- the old book

-- While the book returns what was written, it is closed for tokens where this is answered: it holds what it held,
-- with a hold of all moments. After a refusal it stands for what it stood for, or for that. A stop leaves what it could
-- leave before, or that. Of the histories that it may stand for, this is said of those that are known.
pub record Closes {X A E : Type 0} (g : Ghosts X) (Knows : History → Type 0) (old new : X) (done : Result A E) : Type 0
  where
    pub honest : g.honest new → g.honest old
    pub closes : g.honest new → (b : History) → Stands g b old → Knows b → OnOk done (Stands g (closed b) new)
    pub kept : g.honest new → (b : History) → Stands g b old → Knows b
        → OnErr done (Stands g b new ⊎ Stands g (closed b) new)
    pub crash : g.honest new → (left : g.Left) → g.leaves new left
        → g.leaves old left ⊎ ((b : History) → Stands g b old → Knows b → g.holds left (closed b))

-- each thing that a stop leaves holds the history closed
abbrev pub LeavesClosed : {X : Type 0} → Ghosts X → X → X → Type 0
LeavesClosed g old new =
    g.honest new → (left : g.Left) → g.leaves new left → (b : History) → Stands g b old → g.holds left (closed b)

-- no void stamp with this serial number and genTime comes after all of the history
abbrev pub IsBelow : Option Floor → History → Type 0
IsBelow None b = ⊥
IsBelow (Some floor) b =
    (void : Void) → void.serial ≡ floor.serial → void.gen_time ≡ floor.gen_time → IsAbove void b → ⊥

-- how what is carried on can't be looked up
abbrev pub IsLookFault : ContinuationFault → Type 0
IsLookFault (Unclosed fault) = IsOpeningFault fault
IsLookFault NotAfter = Unit {0}
IsLookFault _ = ⊥

-- it is refused from the closing on
abbrev pub HasBegun : ContinuationFault → Type 0
HasBegun (Unfinished fault) = Unit {0}
HasBegun _ = ⊥

-- the closing is begun only where this is so
abbrev pub BeginsOnlyIf : {A : Type 0} → Type 0 → Result A ContinuationFault → Type 0
BeginsOnlyIf Is done = MatchResult done (λ _. Is) (λ fault. HasBegun fault → Is)

module _ {X : Type 0} (g : Ghosts X) (floor : Option Floor) (old new : X) where
  -- a book that was opened isn't closed, by the refusal
  abbrev pub IsRefused : ContinuationFault → Type 0
  IsRefused (Unopened fault) = ⊥
  IsRefused (Unclosed fault) = IsOpeningFault fault × OnlyLooks g old new
  IsRefused NotAfter =
      OnlyLooks g old new × (g.honest new → (b : History) → Stands g b old → IsBelow floor b)
  IsRefused (Unfinished fault) =
      IsOpeningFault fault × Closes {A = Carried} g (λ b. Unit {0}) old new (Err fault)

  -- it is closed, and this is what its history has, above what is asked for
  abbrev pub Carries : Result Carried ContinuationFault → Type 0
  Carries (Ok c) =
      Closes {E = StoreFault} g (λ b. Unit {0}) old new (Ok c) × IsAskedFor floor c
      × (g.honest new → (b : History) → Stands g b old → IsCarried c b)
      × LeavesClosed g old new
  Carries (Err fault) = IsRefused fault

-- ---- both books

-- the greatest serial number and the last genTime of a history that goes on: those of the old one or, where they are
-- asked for, these, which no token has
abbrev pub Reaches : Option Floor → History → History → Type 0
Reaches None b c = (greatest_serial c ≡ greatest_serial b) × (last_gen_time c ≡ last_gen_time b)
Reaches (Some floor) b c =
    (greatest_serial c ≡ floor.serial)
    × (last_gen_time c ≡ Some floor.gen_time)
    × (token_of floor.serial c ≡ None)

-- A book stands for the history that goes on from b.
pub record StandsOn {Y : Type 0} (h : Ghosts Y) (floor : Option Floor) (void : Option Void) (b : History) (new : Y)
    : Type 0 where
  -- a void stamp comes in place of the last one exactly where that is asked for, for the request of that one
  pub asked : IsVoidIfAny floor (last_stamp_of b) void
  -- it comes after all of b, and states what it has to where b is sound in full: as journeys go on
  pub above : IsAboveIfAny void b
  pub stated : IsSoundInFull b → IsStatedIfAny void b
  pub stands : Stands h (continued void b) new
  pub reaches : Reaches floor b (continued void b)

-- The old book is closed for tokens, and a stop leaves nothing else. A new one was made, and is open. It stands for the
-- history that goes on from each that the old one stood for, above what is asked for.
pub record Continues {X Y : Type 0} (g : Ghosts X) (h : Ghosts Y) (floor : Option Floor) (old left : X) (new : Y)
    : Type 0 where
  pub honest : g.honest left → g.honest old
  pub closes : g.honest left → (b : History) → Stands g b old → Stands g (closed b) left
  pub leaves : g.honest left → (l : g.Left) → g.leaves left l → (b : History) → Stands g b old → g.holds l (closed b)
  pub opened : h.honest new → h.is_open new
  pub void : Option Void
  pub goes_on : g.honest left → (b : History) → Stands g b old → StandsOn h floor void b new

-- What a journey to b finds once it has gone on: the old book is closed for good, and so is each thing that a stop
-- leaves of it; it goes on to a history for which the new one stands, and above all of b.
pub record GoesOver {X Y : Type 0} (g : Ghosts X) (h : Ghosts Y) (b : History) (left : X) (new : Y) : Type 0 where
  pub closes : Stands g (closed b) left
  pub leaves : (l : g.Left) → g.leaves left l → g.holds l (closed b)
  pub nothing : (s : Setting) (c : Command) (o : Outcome) (e : Effect) → HasEffect s c o (closed b) e
      → GivesNothingOut c e
  pub stays : (s : Setting) (c : Command) (o : Outcome) (e : Effect) (k : ℕ) → HasEffect s c o (closed b) e
      → StaysClosed k e (closed b)
  pub history : History
  pub journey : Journey history None []
  pub stands : Stands h history new
  pub opened : h.honest new → h.is_open new
  pub rises : (added : List Entry) → IsSound (added ++ history) → Along IsRising (added ++ history)
      → (before later : ReservationValue) → Contains (reservations b) before → Contains (reservations added) later
      → (before.serial < later.serial) × (before.gen_time ≤ later.gen_time)
