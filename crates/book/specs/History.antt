-- The history of what the counter accepted, newest entry first, and what it says: views are filters and searches of
-- this one list.
use Rattle.std.specs.Prelude.{ℕ, ◌==◌, ◌&&◌, max, nat_le, ℤ, int_le, int_lt, Bool, true, false, List, [], ◌∷◌, map}
use Rattle.std.specs.Prelude.{filter, filter_map, find, count_by, reverse, Option, Some, None, option_map}
use Rattle.std.specs.{Prelude.if◌then◌else◌, List.list_any, Str.bytes_eq}
pub use Rattle.gentime.specs.GenTime.{day_of}
use Rattle.book.specs.{Rows.StampRow, Rows.DepositRow, Readers.Reader}

-- What is reserved for a stamp before it is signed (RFC 3161 2.4.2): genTime in microseconds since
-- 1970-01-01T00:00:00Z; policy and algorithm are the contents octets of object identifiers (X.690 8.19), as the tables
-- keep them; request and tst are whole DER texts.
pub record ReservationValue : Type 0 where
  pub serial : ℕ
  pub account : List ℕ
  pub gen_time : ℕ
  pub policy : List ℕ
  pub algorithm : List ℕ
  pub digest : List ℕ
  pub request : List ℕ
  pub tst : List ℕ

-- what the clock was found to be at one of its readings, in microseconds
pub record CalibrationValue : Type 0 where
  pub reading : ℤ
  pub offset : ℤ
  pub uncertainty : ℕ

-- the moments from the first on and before the second
pub record HoldValue : Type 0 where
  pub from : ℤ
  pub to : ℤ

-- who signs: the signer's certificate (RFC 5280 4.1), and the further ones of its chain, one after the other
pub record InstalledValue : Type 0 where
  pub certificate : List ℕ
  pub chain : List ℕ

pub data Entry : Type 0 where
  Reserved : ReservationValue → Entry
  -- the token of a serial number
  Sealed : ℕ → List ℕ → Entry
  -- a deposit with the token of its number: it seals that number too
  Deposited : DepositRow → List ℕ → Entry
  Calibrated : CalibrationValue → Entry
  Held : HoldValue → Entry
  -- the reader may read the deposit with that number
  Granted : ℕ → Reader → Entry
  -- it may not any more
  Revoked : ℕ → Reader → Entry
  -- this identity is in force from then on
  Installed : InstalledValue → Entry

abbrev pub History : Type 0
History = List Entry

-- what an entry says of a right
pub record RightValue : Type 0 where
  pub number : ℕ
  pub reader : Reader
  pub is_given : Bool

-- What an entry adds to each kind of list, if anything.
abbrev pub reservation_in : Entry → Option ReservationValue
reservation_in (Reserved r) = Some r
reservation_in _ = None

abbrev pub calibration_in : Entry → Option CalibrationValue
calibration_in (Calibrated c) = Some c
calibration_in _ = None

abbrev pub hold_in : Entry → Option HoldValue
hold_in (Held h) = Some h
hold_in _ = None

abbrev pub deposit_in : Entry → Option DepositRow
deposit_in (Deposited d token) = Some d
deposit_in _ = None

-- a right to a deposit, given or taken
abbrev pub right_in : Entry → Option RightValue
right_in (Granted number reader) = Some record { number = number; reader = reader; is_given = true }
right_in (Revoked number reader) = Some record { number = number; reader = reader; is_given = false }
right_in _ = None

abbrev pub installed_in : Entry → Option InstalledValue
installed_in (Installed i) = Some i
installed_in _ = None

-- the newest of each kind first
abbrev pub reservations : History → List ReservationValue
reservations b = filter_map reservation_in b

abbrev pub calibrations : History → List CalibrationValue
calibrations b = filter_map calibration_in b

abbrev pub holds : History → List HoldValue
holds b = filter_map hold_in b

abbrev pub deposits : History → List DepositRow
deposits b = filter_map deposit_in b

abbrev pub rights : History → List RightValue
rights b = filter_map right_in b

abbrev pub installations : History → List InstalledValue
installations b = filter_map installed_in b

-- the greatest serial number, 0 where none is reserved
abbrev pub greatest_of : List ReservationValue → ℕ
greatest_of [] = 0
greatest_of (r ∷ rs) = max r.serial (greatest_of rs)

abbrev pub greatest_serial : History → ℕ
greatest_serial b = greatest_of (reservations b)

-- the first of a list, the newest
abbrev pub first_of : {X : Type 0} → List X → Option X
first_of [] = None
first_of (x ∷ xs) = Some x

-- the genTime that was reserved last
abbrev pub last_gen_time : History → Option ℕ
last_gen_time b = option_map (λ r. r.gen_time) (first_of (reservations b))

abbrev pub is_of_day : List ℕ → ℕ → ReservationValue → Bool
is_of_day account day r = bytes_eq r.account account && (day_of r.gen_time == day)

-- how many reservations an account has on a day, those that never got their token too
abbrev pub count_of_day : List ℕ → ℕ → History → ℕ
count_of_day account day b = count_by (is_of_day account day) (reservations b)

abbrev pub latest_calibration : History → Option CalibrationValue
latest_calibration b = first_of (calibrations b)

-- the moment is held: a hold's first moment is, its last bound isn't
abbrev pub is_held : ℤ → History → Bool
is_held now b = list_any (λ h. int_le h.from now && int_lt now h.to) (holds b)

-- the token of a serial number, where it is sealed
abbrev pub token_of : ℕ → History → Option (List ℕ)
token_of serial [] = None
token_of serial (Sealed n token ∷ b) = if n == serial then Some token else token_of serial b
token_of serial (Deposited d token ∷ b) = if d.serial == serial then Some token else token_of serial b
token_of serial (_ ∷ b) = token_of serial b

abbrev pub reservation_at : ℕ → History → Option ReservationValue
reservation_at serial b = find (λ r. r.serial == serial) (reservations b)

-- a reservation with its token, where it is sealed: a stamp
abbrev pub stamp_of : Option (List ℕ) → ReservationValue → StampRow
stamp_of token r = record {
  serial = r.serial;
  account = r.account;
  day = day_of r.gen_time;
  gen_time = r.gen_time;
  policy = r.policy;
  algorithm = r.algorithm;
  digest = r.digest;
  request = r.request;
  tst = r.tst;
  token = token;
}

-- a stamp by its serial number
abbrev pub stamp_at : ℕ → History → Option StampRow
stamp_at serial b = option_map (stamp_of (token_of serial b)) (reservation_at serial b)

-- all stamps, the newest first
abbrev pub stamps : History → List StampRow
stamps b = map (λ r. stamp_of (token_of r.serial b) r) (reservations b)

-- the stamps of a range, both ends in it, by serial number
abbrev pub stamps_between : ℕ → ℕ → History → List StampRow
stamps_between from to b = reverse (filter (λ s. nat_le from s.serial && nat_le s.serial to) (stamps b))

-- a deposit by its number
abbrev pub deposit_at : ℕ → History → Option DepositRow
deposit_at number b = find (λ d. d.serial == number) (deposits b)

-- a deposit by its owner and the owner's reference
abbrev pub deposit_under : List ℕ → List ℕ → History → Option DepositRow
deposit_under owner reference b = find (λ d. bytes_eq d.owner owner && bytes_eq d.reference reference) (deposits b)
