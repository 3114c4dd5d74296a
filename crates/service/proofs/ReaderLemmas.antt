-- The lines of readers, one after the other.
use Rattle.std.proofs.Common.{◌≡◌, ℕ, true, List}
use Rattle.std.specs.List.{flat_map}
use Rattle.book.specs.declared.standing.Standing.{Ghosts}
use Rattle.book.specs.{History.History, Readers.Reader, Rights.is_own, Stands.OnlyLooks, Stands.Stands}
use Rattle.service.specs.Readers.{reader_line}

-- the lines of those readers are told, and the store was only looked into
pub record HasTold {B : Type 0} (g : Ghosts B) (owner : List ℕ) (number : ℕ) (old new : B) (readers : List Reader)
    (lines : List ℕ) : Type 0 where
  pub looks : OnlyLooks g old new
  pub told : g.honest new → (b : History) → Stands g b old → is_own owner number b ≡ true
      → lines ≡ flat_map (reader_line owner number b) readers
