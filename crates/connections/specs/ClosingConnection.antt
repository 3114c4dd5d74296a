-- What is dropped behind an answer, and its count; and the end of it.
use Rattle.std.specs.Prelude.{◌≡◌, ◌⊎◌, ℕ, ◌+◌, ◌≤◌, List, length, Option}
use Rattle.std.specs.{Io.KnownBytes.Consumes, List.AllByRecursion}
use Rattle.connections.specs.{Acceptor.AreTold, Acceptor.IsWait, Places.most_rounds}
use Rattle.connections.specs.{declared.acceptor.Accepted.Accepted, declared.acceptor.Accepted.TheVariants.Failed}

-- all that the stream gave is counted
pub record IsCounted (old new : Option (List ℕ)) (before after : ℕ) : Type 0 where
  pub dropped : List ℕ
  pub consumed : Consumes old new dropped
  pub counted : after ≡ before + length dropped

-- It was waited until all is done, until it couldn't be waited any more, or as often as it is at most.
pub record IsFinished {A S : Type 0} (tells : A → Accepted S → A → Type 0) (Done : Type 0) (old new : A) : Type 0 where
  pub waited : List (Accepted S)
  pub waits : AllByRecursion IsWait waited
  pub last : A
  pub asked : AreTold tells old waited last
  pub ended : (Done × (new ≡ last)) ⊎ (tells last Failed new ⊎ ((most_rounds ≤ length waited) × (new ≡ last)))
