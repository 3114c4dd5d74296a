-- What is told of a query that is prepared and not run.
use Rattle.std.specs.Prelude.{◌≡◌, ◌↔◌, ℕ, Bool, List, IsTrue}
use Rattle.sqlite.specs.{Listing.understood, State.State}
use Rattle.tables.specs.Versions.{IsUnderstood}

-- the connection was open and nothing has changed, and this says whether the query is understood
abbrev pub TellsColumns : List ℕ → State → State → Bool → Type 0
TellsColumns asked old new found =
    IsTrue old.is_open × (new.now ≡ old.now) × (IsTrue found ↔ IsUnderstood (understood old.now.schema asked))
