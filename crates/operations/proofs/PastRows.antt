-- What is known of the stamps before one, as they are added one after the other.
use Rattle.std.proofs.Common.{◌≡◌, ℕ, List, ◌++◌}
use Rattle.book.specs.History.{History, stamps_between}
use Rattle.book.specs.{declared.standing.Standing.Ghosts, Rows.StampRow, Stands.OnlyLooks, Stands.Stands}
use Rattle.judgement.specs.{Past.IsPast, declared.past.Past.Past}

-- The stamps before those that are left are known.
pub record KnowsBefore {B : Type 0} (g : Ghosts B) (old now : B) (last left : ℕ) (past : Past) : Type 0 where
  pub looks : OnlyLooks g old now
  pub known : g.honest now → (b : History) → Stands g b old
      → (before : List StampRow) × (stamps_between 1 last b ≡ before ++ stamps_between left last b) × IsPast before past
