-- The calls' arguments and answers, as the entries and views of a history.
use Rattle.std.specs.Prelude.{ℕ, List, Option, option_map, string_bytes}
use Rattle.book.specs.Rows.{DepositRow, StampRow, InstalledRow}
use Rattle.book.specs.declared.rows.{Deposit.Deposit, Stamp.Stamp, IdentityRow.IdentityRow}
use Rattle.book.specs.History.{ReservationValue, CalibrationValue, HoldValue, InstalledValue, History, greatest_serial}
use Rattle.book.specs.{History.last_gen_time, Readers.Viewer, Rights.ListedValue}
use Rattle.book.specs.declared.values.{Reservation.Reservation, Calibration.Calibration}
use Rattle.book.specs.declared.values.{Hold.Hold, Last.Last, Listed.Listed, StampedDeposit.StampedDeposit}

abbrev pub reservation_view : Reservation → ReservationValue
reservation_view r = record {
  serial = r.serial;
  account = r.account.now;
  gen_time = r.gen_time;
  policy = r.policy.now;
  algorithm = r.algorithm.now;
  digest = r.digest.now;
  request = r.request.now;
  tst = r.tst.now;
}

abbrev pub calibration_view : Calibration → CalibrationValue
calibration_view c = record { reading = c.reading; offset = c.offset; uncertainty = c.uncertainty }

abbrev pub hold_view : Hold → HoldValue
hold_view h = record { from = h.from; to = h.to }

abbrev pub installed_of : List ℕ → List ℕ → InstalledValue
installed_of certificate chain = record { certificate = certificate; chain = chain }

-- an account that asks, and its groups
abbrev pub viewer_of : List ℕ → List (List ℕ) → Viewer
viewer_of name groups = record { name = name; groups = groups }

abbrev pub last_of : History → Last
last_of b = record { serial = greatest_serial b; gen_time = last_gen_time b }

abbrev pub calibration_option : Option Calibration → Option CalibrationValue
calibration_option found = option_map calibration_view found

abbrev pub deposit_of : ℕ → List ℕ → List ℕ → List ℕ → DepositRow
deposit_of serial owner reference bytes =
    record { serial = serial; owner = owner; reference = reference; bytes = bytes }

abbrev pub stamp_view : Stamp → StampRow
stamp_view s = record {
  serial = s.serial;
  account = string_bytes s.account;
  day = s.day;
  gen_time = s.gen_time;
  policy = s.policy.items;
  algorithm = s.algorithm.items;
  digest = s.digest.items;
  request = s.request.items;
  tst = s.tst.items;
  token = option_map (λ t. t.items) s.token;
}

abbrev pub deposit_view : Deposit → DepositRow
deposit_view d = record {
  serial = d.serial;
  owner = string_bytes d.owner;
  reference = string_bytes d.reference;
  bytes = d.bytes.items;
}

abbrev pub stamped_view : StampedDeposit → DepositRow × StampRow
stamped_view d = (deposit_view d.deposit, stamp_view d.stamp)

abbrev pub listed_view : Listed → ListedValue
listed_view l = record {
  number = l.number;
  owner = string_bytes l.owner;
  reference = string_bytes l.reference;
  gen_time = l.gen_time;
}

abbrev pub identity_view : IdentityRow → InstalledRow
identity_view i = record {
  number = i.number;
  after_serial = i.after_serial;
  certificate = i.certificate.items;
  chain = i.chain.items;
}
