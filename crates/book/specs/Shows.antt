-- Histories that show the same: all that a book is asked, and all that is written down of them.
use Rattle.std.specs.Prelude.{◌≡◌, ℕ}
use Rattle.book.specs.History.{History, reservations, token_of, calibrations, holds, deposits}
use Rattle.book.specs.{Identities.installed_rows, Readers.Reader, Rights.is_reader}

-- the same stamps with their tokens, calibrations, holds, deposits, current readers and identities: how entries of
-- different kinds lie between one another, and rights that changed nothing, don't show
pub record ShowsSame (b d : History) : Type 0 where
  pub reserved : reservations b ≡ reservations d
  pub tokens : (serial : ℕ) → token_of serial b ≡ token_of serial d
  pub calibrated : calibrations b ≡ calibrations d
  pub held : holds b ≡ holds d
  pub deposited : deposits b ≡ deposits d
  pub readers : (number : ℕ) (reader : Reader) → is_reader number reader b ≡ is_reader number reader d
  pub installed : installed_rows b ≡ installed_rows d
