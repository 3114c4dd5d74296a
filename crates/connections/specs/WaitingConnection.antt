-- Connections that are waited for, as contracts see them.
use Rattle.std.specs.Prelude.{ℕ, Bool, true, false, List, map, Option, Some, None}
use Rattle.std.specs.Time.{instant_nanos}
use Rattle.connections.specs.Places.{Place, Intake, IsLost, IsNew, IsUnfinished, IsWhole, HandsOut, FailsOne}
use Rattle.connections.specs.declared.waiting_connection.Progress.TheVariants.{Waits, Whole, Failed}
use Rattle.connections.specs.{declared.acceptor.Accepted.Accepted, declared.places.Places.Places}
use Rattle.connections.specs.{declared.waiting_connection.Progress.Progress}
use Rattle.connections.specs.{declared.waiting_connection.WaitingConnection.WaitingConnection}
use Rattle.connections.specs.declared.acceptor.Accepted.TheVariants as accepted

abbrev pub place_of : {S : Type 0} → WaitingConnection S → Place S
place_of one = record {
  received = one.request;
  stream = one.peer.stream;
  taken = instant_nanos one.taken;
  has_failed = one.has_failed;
}

abbrev pub places_of : {S : Type 0} → Places S → List (Place S)
places_of places = map place_of places.waiting.items

abbrev pub intake : {A S : Type 0} → A → Places S → Intake A S
intake acceptor places = record { acceptor = acceptor; places = places_of places }

-- how many may have a place for one to get one: none where it isn't waited
abbrev pub most_of : Option ℕ → ℕ
most_of (Some most) = most
most_of None = 0

-- by that moment a request has come so far: only one that is whole is told as whole, and only one that fails as failed
abbrev pub HasCome : {S : Type 0} → ℕ → Progress → Place S → Type 0
HasCome now Waits one = IsUnfinished one.received
HasCome now Whole one = IsWhole one.received
HasCome now Failed one = IsLost now one

-- what is done with: one that is whole, or one that failed by that moment
abbrev pub IsDoneBy : {S : Type 0} → ℕ → Bool → Place S → Type 0
IsDoneBy now true one = IsWhole one.received
IsDoneBy now false one = IsLost now one

-- what the acceptor told where this was taken of it
abbrev pub Takes : {A S : Type 0} → (A → Accepted S → A → Type 0) → (ℕ → Type 0) → A → Accepted (WaitingConnection S)
    → A → Type 0
Takes tells shows old (accepted.One one) new =
    tells old (accepted.One one.peer.stream) new × IsNew shows (place_of one)
Takes tells shows old accepted.Nothing new = tells old accepted.Nothing new
Takes tells shows old accepted.Short new = tells old accepted.Short new
Takes tells shows old accepted.Failed new = tells old accepted.Failed new

-- what comes of waiting: one is handed out, or one failed
abbrev pub ComesOf : {A S : Type 0} → (A → Accepted S → A → Type 0) → (ℕ → Type 0) → (S → Option (List ℕ))
    → (S → Type 0) → ℕ → Intake A S → Option (WaitingConnection S) → Intake A S → Type 0
ComesOf tells shows remaining fails most old None new = FailsOne tells shows remaining fails most old new
ComesOf tells shows remaining fails most old (Some one) new =
    HandsOut tells shows remaining fails most old one.request one.peer.stream new
