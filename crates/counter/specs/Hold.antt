-- What `hold` does: moments at which no token is given are added to the history.
use Rattle.std.specs.Prelude.{◌≡◌, ◌<◌, ℕ, pos, Ok}
use Rattle.book.specs.{History.HoldValue, Values.hold_view, declared.values.Hold.Hold as HoldRow}
use Rattle.command_line.specs.declared.words.HoldWords.{HoldWords}
use Rattle.connections.specs.Clock.{Reading}
use Rattle.operations.specs.declared.addition.Addition.TheVariants.{Hold}
use Rattle.operations.specs.{Addition.IsAdded, Machine.Machine, OverFiles.IsDoneOver}

abbrev pub hold_of : HoldWords → HoldValue
hold_of words = record { from = pos words.from; to = pos words.to }

pub record Holds {D X C : Type 0} (m : Machine D X C Reading) (words : HoldWords) : Type 0 where
  -- the moments that the words state, of which there is one
  pub some : words.from < words.to
  pub hold : HoldRow
  pub stated : hold_view hold ≡ hold_of words
  -- it is added to the store of the database, in one commit, and has this number there
  pub number : ℕ
  pub added : IsDoneOver m.disk m.held (λ g opened left. IsAdded g (Hold hold) opened left (Ok number))
