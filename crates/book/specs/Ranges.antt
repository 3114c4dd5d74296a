-- The stamps of a range, one after the other.
use Rattle.std.specs.Prelude.{◌≡◌, ℕ, ◌+◌, ◌≤◌, List, [], ◌∷◌, Option, Some, None}
use Rattle.book.specs.{Rows.StampRow, Values.stamp_view, declared.rows.Stamp.Stamp}
use Rattle.book.specs.History.{History, stamps_between}

-- a number of a range, both ends in it
pub record IsWithin (from to number : ℕ) : Type 0 where
  pub least : from ≤ number
  pub most : number ≤ to

-- the stamp of a range with the least serial number, and what is left of the range then; or none is in it
abbrev pub IsNextStamp : ℕ → ℕ → History → Option Stamp → Type 0
IsNextStamp from to b None = stamps_between from to b ≡ []
IsNextStamp from to b (Some stamp) =
    stamps_between from to b ≡ stamp_view stamp ∷ stamps_between (stamp.serial + 1) to b

-- a walk hands out the first of the stamps that were left, or none is left
abbrev pub HandsOut : List StampRow → List StampRow → Option Stamp → Type 0
HandsOut before after None = (before ≡ []) × (after ≡ [])
HandsOut before after (Some stamp) = before ≡ stamp_view stamp ∷ after
