-- What an account may know of a history: histories that agree for it can't be told apart by its commands.
use Rattle.std.specs.Prelude.{◌≡◌, ℕ, List, filter, Option, Some, None, option_map}
use Rattle.std.specs.Str.{bytes_eq}
use Rattle.book.specs.History.{History, CalibrationValue, HoldValue, InstalledValue, stamps, deposits}
use Rattle.book.specs.History.{latest_calibration, last_gen_time, greatest_serial, reservation_at, token_of}
use Rattle.book.specs.{History.holds, Identities.latest_identity, Readers.Viewer, Rights.seen_by, Rows.DepositRow}
use Rattle.desk.specs.Command.{Command, Stamp, Begin, Finish, Abandon, Deposit, Show, Token, ListAll, Grant, Revoke}
use Rattle.desk.specs.Command.{Calibrate, Hold, Succeed}

-- a deposit that an account sees, with the genTime and the token of its stamp
pub record SeenValue : Type 0 where
  pub deposit : DepositRow
  pub gen_time : Option ℕ
  pub token : Option (List ℕ)

abbrev pub seen_as : ℕ → History → DepositRow → SeenValue
seen_as number b d = record {
  deposit = d;
  gen_time = option_map (λ r. r.gen_time) (reservation_at number b);
  token = token_of number b;
}

abbrev pub seen_at : Viewer → ℕ → History → Option SeenValue
seen_at viewer number b = option_map (seen_as number b) (seen_by viewer number b)

-- what all accounts may know: the clock, the genTime that was reserved last, the greatest serial number, and the
-- identity in force
pub record Shared : Type 0 where
  pub calibration : Option CalibrationValue
  pub holding : List HoldValue
  pub last : Option ℕ
  pub greatest : ℕ
  pub identity : Option InstalledValue

abbrev pub shared_by : History → Shared
shared_by b = record {
  calibration = latest_calibration b;
  holding = holds b;
  last = last_gen_time b;
  greatest = greatest_serial b;
  identity = latest_identity b;
}

-- Two histories agree for who asks: the same stamps of its own, the same deposits of its own and deposits that it sees,
-- and the same of what all share.
pub record Agree (viewer : Viewer) (b c : History) : Type 0 where
  pub own_stamps : filter (λ s. bytes_eq s.account viewer.name) (stamps b)
      ≡ filter (λ s. bytes_eq s.account viewer.name) (stamps c)
  pub own_deposits : filter (λ d. bytes_eq d.owner viewer.name) (deposits b)
      ≡ filter (λ d. bytes_eq d.owner viewer.name) (deposits c)
  pub seen : (number : ℕ) → seen_at viewer number b ≡ seen_at viewer number c
  pub shared : shared_by b ≡ shared_by c

-- the command is the account's own
abbrev pub IsCommandOf : List ℕ → Command → Type 0
IsCommandOf account (Stamp None reading octets) = ⊥
IsCommandOf account (Stamp (Some a) reading octets) = a.name ≡ account
IsCommandOf account (Begin by reading octets) = ⊥
IsCommandOf account (Finish p signature) = ⊥
IsCommandOf account (Abandon p) = ⊥
IsCommandOf account (Deposit a reading reference bytes) = a.name ≡ account
IsCommandOf account (Show a n) = a.name ≡ account
IsCommandOf account (Token a n) = a.name ≡ account
IsCommandOf account (ListAll a) = a.name ≡ account
IsCommandOf account (Grant a n reader) = a.name ≡ account
IsCommandOf account (Revoke a n reader) = a.name ≡ account
IsCommandOf account (Calibrate c) = ⊥
IsCommandOf account (Hold h) = ⊥
IsCommandOf account (Succeed next) = ⊥
