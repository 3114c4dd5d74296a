-- What is known of a stamp, of a deposit and of an identity. Moments are whole microseconds from 1970-01-01T00:00:00Z,
-- days whole days from it, and texts, object identifiers and blobs are their octets.
use Rattle.std.specs.Prelude.{ℕ, List, Option}

-- a reservation of a serial number, and its token once it is sealed
pub record StampRow : Type 0 where
  pub serial : ℕ
  pub account : List ℕ
  -- the UTC day of its genTime
  pub day : ℕ
  pub gen_time : ℕ
  -- the contents of the policy's and the hash algorithm's object identifiers
  pub policy : List ℕ
  pub algorithm : List ℕ
  pub digest : List ℕ
  pub request : List ℕ
  pub tst : List ℕ
  pub token : Option (List ℕ)

-- a deposit under its number, which is its stamp's serial number
pub record DepositRow : Type 0 where
  pub serial : ℕ
  pub owner : List ℕ
  pub reference : List ℕ
  pub bytes : List ℕ

pub record InstalledRow : Type 0 where
  -- 1, 2, 3 and so on in the order in which they were installed
  pub number : ℕ
  -- the greatest serial number that was reserved before
  pub after_serial : ℕ
  pub certificate : List ℕ
  pub chain : List ℕ
