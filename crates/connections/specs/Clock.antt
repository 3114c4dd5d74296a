-- Readings of a clock, in microseconds since 1970-01-01T00:00:00Z, and what they are of the machine's clocks.
use Rattle.std.specs.Prelude.{◌≡◌, ℕ, ◌+◌, ◌-◌, ◌^◌, ◌<◌, ◌≤◌, ◌/◌, ℤ, pos, Option, Some, None, Result, Ok, Err}
use Rattle.connections.specs.declared.clock.ClockFailed.{ClockFailed}

-- what a clock answers
abbrev pub Reading : Type 0
Reading = Result ℤ ClockFailed

-- A look at the machine's clocks, in nanoseconds: the wall clock since 1970, and the monotonic clock before it and
-- after it.
pub record Look : Type 0 where
  pub before : ℕ
  pub wall : ℕ
  pub after : ℕ

-- the first look and the last one
pub record Looks : Type 0 where
  pub first : Look
  pub last : Look

-- by how many nanoseconds the wall clock may part from the monotonic one: 10 milliseconds
abbrev pub most_parting : ℕ
most_parting = 10_000_000

-- Between two looks the wall clock went on as the monotonic clock did: not less than from behind the first look to
-- before the next, nor more than from before the first to behind the next, but for a parting.
pub record GoAlike (first next : Look) : Type 0 where
  pub forth : first.wall ≤ next.wall
  pub least : next.before ≤ first.after + (next.wall - first.wall) + most_parting
  pub most : next.wall - first.wall ≤ next.after - first.before + most_parting

-- A look goes on from those before it: its wall clock isn't before the last one's, and went on from the first as the
-- monotonic clock did.
abbrev pub GoesOn : Option Looks → Look → Type 0
GoesOn None next = Unit {0}
GoesOn (Some looks) next = (looks.last.wall ≤ next.wall) × GoAlike looks.first next

-- the looks with one more
abbrev pub with_look : Option Looks → Look → Looks
with_look None next = record { first = next; last = next }
with_look (Some looks) next = record { first = looks.first; last = next }

-- A reading is the wall clock's, in whole microseconds, of a look that goes on from those before.
pub record IsReading (before : Option Looks) (reading : ℤ) (after : Option Looks) : Type 0 where
  pub look : Look
  pub goes : GoesOn before look
  pub kept : after ≡ Some (with_look before look)
  pub micros : reading ≡ pos (look.wall / 1000)
  pub few : look.wall / 1000 < 2 ^ 63

-- What asking the machine's clock does; a failure leaves the looks as they are.
abbrev pub AsksClock : Option Looks → Reading → Option Looks → Type 0
AsksClock before (Ok reading) after = IsReading before reading after
AsksClock before (Err failed) after = after ≡ before
