-- What an output tells of its failures and of what it was asked, and why a writing stops.
use Rattle.std.specs.Prelude.{◌≡◌, ◌⊎◌, ℕ, ◌+◌, ◌<◌, Option, None, Some}

-- a write or a flush failed, where that is told: there are more failures than before
abbrev pub HasFailed : Option ℕ → Option ℕ → Type 0
HasFailed None after = Unit {0}
HasFailed (Some before) None = ⊥
HasFailed (Some before) (Some after) = before < after

-- it was asked so often to send what was written, where that is told
abbrev pub IsAsked : ℕ → Option ℕ → Option ℕ → Type 0
IsAsked times None after = Unit {0}
IsAsked times (Some before) None = ⊥
IsAsked times (Some before) (Some after) = after ≡ before + times

-- so many octets would exceed the limit, or a write failed
abbrev pub StopsFor : (limit octets : ℕ) → (before after : Option ℕ) → Type 0
StopsFor limit octets before after = (limit < octets) ⊎ HasFailed before after
