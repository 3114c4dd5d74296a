-- What a database has to say of a stamp.
use Rattle.std.specs.Prelude.{◌≡◌, ◌-◌, ℕ, List, [], ◌∷◌, Option, Some, None}
use Rattle.sqlite_disk.specs.declared.Disk.{Ghosts as Disk}
use Rattle.sqlite_wal.specs.Recovery.{Image}
use Rattle.policy.specs.Record.{PolicyValue}
use Rattle.book.specs.History.{History, stamps_between}
use Rattle.book.specs.{declared.standing.Standing.Ghosts, Rows.StampRow, Stands.OnlyLooks, Stands.Stands}
use Rattle.judgement.specs.{Explanation.IsExplanation, Readings.evidence_in}
use Rattle.operations.specs.OverFiles.{IsDoneOver}

-- The stamp of a serial number is explained by what the history keeps, behind the stamps with lower ones; or no stamp
-- has that number.
abbrev pub Explains : PolicyValue → ℕ → History → Option (List ℕ) → Type 0
Explains file serial b None = stamps_between serial serial b ≡ []
Explains file serial b (Some text) =
    (stamp : StampRow)
    × (stamps_between serial serial b ≡ stamp ∷ [])
    × IsExplanation (evidence_in file b) (stamps_between 1 (serial - 1) b) stamp text

-- A book is only looked at, and while it returns what was written, so a stamp is explained of each history that it
-- stood for.
pub record IsExplanationOf {B : Type 0} (g : Ghosts B) (file : PolicyValue) (serial : ℕ) (found : Option (List ℕ))
    (old new : B) : Type 0 where
  pub looks : OnlyLooks g old new
  pub explained : g.honest new → (b : History) → Stands g b old → Explains file serial b found

module _ {D : Type 0} (disk : Disk D) (held : Image) where
  -- so it was done over what the files held
  abbrev pub IsExplainedOver : PolicyValue → ℕ → Option (List ℕ) → Type 0
  IsExplainedOver file serial found =
      IsDoneOver disk held (λ g opened left. IsExplanationOf g file serial found opened left)

  -- the store over them was only looked at
  abbrev pub IsLookedAtOver : Type 0
  IsLookedAtOver = IsDoneOver disk held (λ g opened left. OnlyLooks g opened left)
