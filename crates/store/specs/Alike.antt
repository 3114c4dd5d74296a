-- Histories that a store can't tell apart: equal tables, and what follows of their views and of who sees what.
use Rattle.std.specs.Prelude.{◌≡◌, ℕ, ℤ, List, IsPermutation}
use Rattle.tables.specs.Tables.{Tables}
use Rattle.book.specs.History.{History, greatest_serial, last_gen_time, count_of_day, latest_calibration, is_held}
use Rattle.book.specs.History.{stamp_at, stamps_between, deposit_at, deposit_under}
use Rattle.book.specs.Rights.{is_reader, seen_by, listed, deposit_with_stamp}
use Rattle.book.specs.{Identities.identities, Readers.Reader, Readers.Viewer}

-- the same rows in each table, in any order
pub record HaveSameRows (t u : Tables) : Type 0 where
  pub stamps : IsPermutation t.stamps u.stamps
  pub calibrations : IsPermutation t.calibrations u.calibrations
  pub holds : IsPermutation t.holds u.holds
  pub deposits : IsPermutation t.deposits u.deposits
  pub readers : IsPermutation t.readers u.readers
  pub tallies : IsPermutation t.tallies u.tallies
  pub group_readers : IsPermutation t.group_readers u.group_readers
  pub identities : IsPermutation t.identities u.identities

-- all that is looked up in one history is the same in the other
pub record AreAlike (b d : History) : Type 0 where
  pub greatest : greatest_serial b ≡ greatest_serial d
  pub last : last_gen_time b ≡ last_gen_time d
  pub counts : (account : List ℕ) (day : ℕ) → count_of_day account day b ≡ count_of_day account day d
  pub calibration : latest_calibration b ≡ latest_calibration d
  pub held : (now : ℤ) → is_held now b ≡ is_held now d
  pub stamp : (serial : ℕ) → stamp_at serial b ≡ stamp_at serial d
  pub between : (from to : ℕ) → stamps_between from to b ≡ stamps_between from to d
  pub deposit : (number : ℕ) → deposit_at number b ≡ deposit_at number d
  pub under : (owner reference : List ℕ) → deposit_under owner reference b ≡ deposit_under owner reference d
  pub stamped : (number : ℕ) → deposit_with_stamp number b ≡ deposit_with_stamp number d
  pub reader : (number : ℕ) (reader : Reader) → is_reader number reader b ≡ is_reader number reader d
  pub seen : (viewer : Viewer) (number : ℕ) → seen_by viewer number b ≡ seen_by viewer number d
  pub list : (viewer : Viewer) → listed viewer b ≡ listed viewer d
  pub identities : identities b ≡ identities d
