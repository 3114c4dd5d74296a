-- Connections whose requests are still to come, in the order in which they were taken, and what came of each.
use Rattle.std.specs.Prelude.{◌≡◌, ◌⊎◌, ℕ, ◌+◌, ◌<◌, ◌≤◌, Bool, true, false, List, [], ◌∷◌, ◌++◌, length, map}
use Rattle.std.specs.Prelude.{slice_index_or, Option, OnSome}
use Rattle.std.specs.{Io.KnownBytes.Consumes, Io.KnownBytes.IsAtEnd, List.AllByRecursion, List.AllZip}
use Rattle.service.specs.Received.{ReceivedValue, is_open}
use Rattle.connections.specs.Acceptor.{came, AreTold, IsFine, WasShort}
use Rattle.connections.specs.{declared.acceptor.Accepted.Accepted, declared.acceptor.Accepted.TheVariants.Failed}

-- A connection that has a place: what came of its request, and the stream of which it came; when it was taken, in
-- nanoseconds; and whether reading it failed.
pub record Place (S : Type 0) : Type 0 where
  pub received : ReceivedValue
  pub stream : S
  pub taken : ℕ
  pub has_failed : Bool

-- what accepts connections, and those that have a place
pub record Intake (A S : Type 0) : Type 0 where
  pub acceptor : A
  pub places : List (Place S)

-- the most that have a place
abbrev pub most_places : ℕ
most_places = 256

-- for how long a request may come, and for how long a connection keeps its place though others wait for one, in
-- nanoseconds
abbrev pub most_time : ℕ
most_time = 20_000_000_000

abbrev pub place_time : ℕ
place_time = 2_000_000_000

-- how often it is waited at most
abbrev pub most_rounds : ℕ
most_rounds = 18446744073709551615

-- the input ended before anything came
abbrev pub IsClosed : ReceivedValue → Type 0
IsClosed r = (r.octets ≡ []) × (r.is_ended ≡ true)

-- A request isn't whole: others are wanted, and may come, or nothing came of it.
abbrev pub IsUnfinished : ReceivedValue → Type 0
IsUnfinished r = (is_open r ≡ true) ⊎ IsClosed r

-- or it is
abbrev pub IsWhole : ReceivedValue → Type 0
IsWhole r = ¬ IsUnfinished r

-- One that isn't whole by that moment fails: nothing came of it, reading it failed, or its time is up.
pub record IsLost {S : Type 0} (now : ℕ) (one : Place S) : Type 0 where
  pub unfinished : IsUnfinished one.received
  pub cause : IsClosed one.received ⊎ ((one.has_failed ≡ true) ⊎ (one.taken + most_time ≤ now))

-- or it may be given up for another
pub record MayGiveWay {S : Type 0} (now : ℕ) (one : Place S) : Type 0 where
  pub unfinished : IsUnfinished one.received
  pub waited : one.taken + place_time ≤ now

-- one has that place, and this holds of it
pub record IsAt {S : Type 0} (place : ℕ) (Holds : Place S → Type 0) (all : List (Place S)) : Type 0 where
  pub within : place < length all
  pub holds : (other : Place S) → Holds (slice_index_or all place other)

-- One is taken out of its place, behind so many others. These and those behind it stay as they are.
pub record IsTakenOut {S : Type 0} (place : ℕ) (one : Place S) (old new : List (Place S)) : Type 0 where
  pub before : List (Place S)
  pub behind : List (Place S)
  pub stood : old ≡ before ++ (one ∷ behind)
  pub there : length before ≡ place
  pub stay : new ≡ before ++ behind

-- the first is taken out of its place, and another gets one behind the others
abbrev pub GivesWay : {S : Type 0} → Place S → List (Place S) → List (Place S) → Type 0
GivesWay {S} one old new =
    (first : Place S) × (rest : List (Place S)) × IsTakenOut 0 first old rest × (new ≡ rest ++ (one ∷ []))

-- the first is given up
pub record IsGivenUp {S : Type 0} (now : ℕ) (old new : List (Place S)) : Type 0 where
  pub first : Place S
  pub out : IsTakenOut 0 first old new
  pub may : MayGiveWay now first

module _ {S : Type 0} (remaining : S → Option (List ℕ)) (fails : S → Type 0) where
  -- What came of its request since then is what its own stream gave. The input is told as ended only where it is: then
  -- none is left of the octets that the stream told. It is told that reading it failed only where it did, and nothing
  -- is read behind that.
  pub record IsReadOn (old new : Place S) : Type 0 where
    pub got : List ℕ
    pub octets : new.received.octets ≡ old.received.octets ++ got
    pub consumed : Consumes (remaining old.stream) (remaining new.stream) got
    pub ended : old.received.is_ended ≡ false → new.received.is_ended ≡ true
        → OnSome (remaining old.stream) (IsAtEnd (remaining new.stream))
    pub taken : new.taken ≡ old.taken
    pub failed : old.has_failed ≡ false → new.has_failed ≡ true → fails new.stream
    pub kept : old.has_failed ≡ true → new ≡ old

  -- each keeps its place
  abbrev pub AreReadOn : List (Place S) → List (Place S) → Type 0
  AreReadOn old new = AllZip IsReadOn old new

  -- they are read on, and none is whole
  pub record AreAllUnfinished (old new : List (Place S)) : Type 0 where
    pub read : AreReadOn old new
    pub unfinished : AllByRecursion (λ one. IsUnfinished one.received) new

  -- they are read on, and one is taken out of its place, of which this holds
  pub record TakesOne (Holds : Place S → Type 0) (old : List (Place S)) (one : Place S) (new : List (Place S)) : Type 0
    where
      pub last : List (Place S)
      pub read : AreReadOn old last
      pub place : ℕ
      pub out : IsTakenOut place one last new
      pub holds : Holds one

  -- one that is whole
  abbrev pub GivesOne : List (Place S) → Place S → List (Place S) → Type 0
  GivesOne = TakesOne (λ one. IsWhole one.received)

  -- or one that failed by that moment
  abbrev pub LosesOne : ℕ → List (Place S) → Place S → List (Place S) → Type 0
  LosesOne now = TakesOne (IsLost now)

-- Nothing came yet of a connection that was taken at a moment that was shown.
pub record IsNew {S : Type 0} (shows : ℕ → Type 0) (one : Place S) : Type 0 where
  pub unread : one.received.octets ≡ []
  pub going_on : one.received.is_ended ≡ false
  pub fine : one.has_failed ≡ false
  pub shown : shows one.taken

module _ {A S : Type 0} (tells : A → Accepted S → A → Type 0) (shows : ℕ → Type 0) where
  -- All that came get places behind the others, as long as fewer than so many have one, and fewer than 256.
  pub record AreAdded (most : ℕ) (old new : Intake A S) : Type 0 where
    pub told : List (Accepted S)
    pub asked : AreTold tells old.acceptor told new.acceptor
    pub fine : AllByRecursion IsFine told
    pub taken : List (Place S)
    pub unread : AllByRecursion (IsNew shows) taken
    pub are : map (λ p. p.stream) taken ≡ came told
    pub behind : new.places ≡ old.places ++ taken
    pub few : (taken ≡ []) ⊎ ((length new.places ≤ most) × (length new.places ≤ most_places))

module _ {A S : Type 0} (tells : A → Accepted S → A → Type 0) (shows : ℕ → Type 0)
    (remaining : S → Option (List ℕ)) (fails : S → Type 0) where
  -- New ones get places, and each is read on. Where none may get one, each is read on alone.
  pub record AreWaitedFor (most : ℕ) (old new : Intake A S) : Type 0 where
    pub between : Intake A S
    pub added : AreAdded tells shows most old between
    pub read : AreReadOn remaining fails between.places new.places
    pub same : new.acceptor ≡ between.acceptor

  -- the same, and so often at least the acceptor told of one or of none
  abbrev pub AreRounds : ℕ → ℕ → Intake A S → Intake A S → Type 0
  AreRounds rounds most old new = (waited : AreWaitedFor most old new) × (rounds ≤ length waited.added.told)

  -- One whose request is whole is taken out of its place, and handed out by the octets that came of its own stream.
  pub record HandsOut (most : ℕ) (old : Intake A S) (received : ReceivedValue) (stream : S) (new : Intake A S) : Type 0
    where
      pub last : Intake A S
      pub heard : AreWaitedFor most old last
      pub one : Place S
      pub given : GivesOne remaining fails last.places one new.places
      pub same : new.acceptor ≡ last.acceptor
      pub came : received ≡ one.received
      pub through : stream ≡ one.stream

  -- why one fails, after this was told
  pub data IsFailure (most : ℕ) (told : List (Accepted S)) (old new : Intake A S) : Type 0 where
    -- the acceptor tells so
    refused : tells old.acceptor Failed new.acceptor → new.places ≡ old.places → IsFailure most told old new
    -- one that has a place fails by a moment that was shown
    lost : (now : ℕ) → shows now → (one : Place S) → LosesOne remaining fails now old.places one new.places
        → new.acceptor ≡ old.acceptor → IsFailure most told old new
    -- all places are taken, and the first is given up for another that came
    crowded : (now : ℕ) → shows now → length old.places ≡ most_places → (rest : List (Place S))
        → IsGivenUp now old.places rest
        → AreAdded tells shows most (record { acceptor = old.acceptor; places = rest }) new
        → length rest < length new.places → IsFailure most told old new
    -- the system had nothing to spare for another, and the first is given up
    short : (now : ℕ) → shows now → WasShort told → IsGivenUp now old.places new.places
        → new.acceptor ≡ old.acceptor → IsFailure most told old new
    -- it can't be waited any more
    unheard : most_rounds ≤ length told → new ≡ old → IsFailure most told old new

  -- One fails, and there is a cause of it.
  pub record FailsOne (most : ℕ) (old new : Intake A S) : Type 0 where
    pub last : Intake A S
    pub heard : AreWaitedFor most old last
    pub cause : IsFailure most heard.added.told last new
