-- What a stamp of a history is judged by, as it is kept.
use Rattle.std.specs.Prelude.{◌≡◌, ◌-◌, ℕ, List, map, reverse}
use Rattle.book.specs.History.{History, calibrations, holds, stamps_between}
use Rattle.book.specs.Values.{calibration_view, hold_view, identity_view}
use Rattle.book.specs.{Identities.identities, Rows.StampRow}
use Rattle.judgement.specs.Past.{IsPast}
use Rattle.operations.specs.declared.kept.Kept.{Kept}

-- the rows with lower serial numbers; the least number is 1
abbrev pub rows_before : ℕ → History → List StampRow
rows_before serial b = stamps_between 1 (serial - 1) b

-- all calibrations, holds and identities of the history, and what these rows of it say
pub record IsKept (b : History) (rows : List StampRow) (kept : Kept) : Type 0 where
  pub calibrated : map calibration_view kept.calibrations.items ≡ reverse (calibrations b)
  pub held : map hold_view kept.holds.items ≡ reverse (holds b)
  pub installed : map identity_view kept.identities.items ≡ identities b
  pub past : IsPast rows kept.past
