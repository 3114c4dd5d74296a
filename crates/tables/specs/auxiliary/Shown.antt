-- The cells that a look-up asks of a row: all but the bytes where it needs no bytes.
use Rattle.std.specs.Prelude.{ℕ, pos, List, [], ◌∷◌}
use Rattle.sqlite_value.specs.declared.value.Value.TheVariants.{Int, Text, Blob}
use Rattle.sqlite_value.specs.{declared.value.Value.Value, Order.Row, Order.column}
use Rattle.tables.specs.Tables.{StampRow, TallyRow, CalibrationRow, HoldRow, DepositRow, ReaderRow, InstalledRow}
use Rattle.tables.specs.{Layout.token_cell, Queries.LabelValue}

abbrev pub stamp_shown : StampRow → Row
stamp_shown s =
    Int (pos s.serial) ∷ Text s.account ∷ Int (pos s.day) ∷ Int (pos s.gen_time) ∷ Blob s.policy ∷ Blob s.algorithm
    ∷ Blob s.digest
    ∷ Blob s.request ∷ Blob s.tst ∷ token_cell s.token ∷ []

abbrev pub origin_shown : StampRow → Row
origin_shown s = Text s.account ∷ Int (pos s.gen_time) ∷ []

abbrev pub last_shown : StampRow → Row
last_shown s = Int (pos s.serial) ∷ Int (pos s.gen_time) ∷ []

abbrev pub count_shown : TallyRow → Row
count_shown t = Int (pos t.count) ∷ []

abbrev pub calibration_shown : CalibrationRow → Row
calibration_shown c = Int (pos c.n) ∷ Int c.reading ∷ Int c.offset ∷ Int (pos c.uncertainty) ∷ []

abbrev pub hold_number_shown : HoldRow → Row
hold_number_shown h = Int (pos h.n) ∷ []

abbrev pub hold_shown : HoldRow → Row
hold_shown h = Int h.from ∷ Int h.to ∷ []

abbrev pub deposit_shown : DepositRow → Row
deposit_shown d = Int (pos d.serial) ∷ Text d.owner ∷ Text d.reference ∷ Blob d.bytes ∷ []

abbrev pub label_shown : DepositRow → Row
label_shown d = Int (pos d.serial) ∷ Text d.reference ∷ []

-- and what such a row says
abbrev pub number_in : Value → ℕ
number_in (Int (pos n)) = n
number_in _ = 0

abbrev pub text_in : Value → List ℕ
text_in (Text octets) = octets
text_in _ = []

abbrev pub label_in : Row → LabelValue
label_in row = record { serial = number_in (column row 0); reference = text_in (column row 1) }

abbrev pub number_shown : DepositRow → Row
number_shown d = Int (pos d.serial) ∷ []

abbrev pub readable_shown : ReaderRow → Row
readable_shown r = Int (pos r.serial) ∷ []

abbrev pub identity_shown : InstalledRow → Row
identity_shown i = Int (pos i.number) ∷ Int (pos i.after_serial) ∷ Blob i.certificate ∷ Blob i.chain ∷ []

abbrev pub identity_number_shown : InstalledRow → Row
identity_number_shown i = Int (pos i.number) ∷ []
