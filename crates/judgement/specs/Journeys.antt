-- Journeys of the machine by one policy file, in which no calibration has an earlier reading than a stamp before it.
use Rattle.std.specs.Prelude.{◌≡◌, ◌≤◌, ℤ, pos, ◌≤ℤ◌, List, [], ◌∷◌, ◌++◌, length, map, reverse, Option, Some, None}
use Rattle.std.specs.{List.AllByRecursion, Option.option_to_list}
use Rattle.policy.specs.Record.{PolicyValue}
use Rattle.book.specs.History.{Reserved, History, ReservationValue, holds, reservations, stamp_of, token_of}
use Rattle.book.specs.{Continuation.continued, Rows.StampRow, Sound.greatest_number}
use Rattle.desk.specs.Command.{Setting, Command, Stamp, Begin, Deposit, Calibrate}
use Rattle.desk.specs.MachineRuns.{Told, Journey, begins, opens, opens_older, shuts, rests, enters, breaks, goes, stops}
use Rattle.desk.specs.MachineRuns.{continues}
use Rattle.judgement.specs.{Given.IsGivenByRules, Past.before_of, Readings.evidence_in, Readings.unheld}

-- the reading at which a command has a stamp given, if it has one given
abbrev pub reading_in : Command → Option ℤ
reading_in (Stamp account reading octets) = Some reading
reading_in (Begin account reading octets) = Some reading
reading_in (Deposit a reading reference bytes) = Some reading
reading_in _ = None

-- those of a journey in the book in which it ends
abbrev pub readings_of : {b : History} {x : Option Setting} {w : List Told} → Journey b x w → List ℤ
readings_of begins = []
readings_of (opens s o e proper has done j) = readings_of j
readings_of (opens_older s proper none unnamed j) = readings_of j
readings_of (shuts s o e k proper has j) = readings_of j
readings_of (rests j) = readings_of j
readings_of (enters s c o e entering met has j) = readings_of j
readings_of (breaks s c o e k entering met has j) = readings_of j
readings_of (goes s c o e met has j) = option_to_list (reading_in c) ++ readings_of j
readings_of (stops s c o e k met has j) = option_to_list (reading_in c) ++ readings_of j
readings_of (continues floor above stated j) = []

-- A reading is one of 64 bits, and that of a calibration isn't before these.
abbrev pub IsInOrder : Command → List ℤ → Type 0
IsInOrder (Stamp account reading octets) readings = reading ≤ℤ pos greatest_number
IsInOrder (Begin account reading octets) readings = reading ≤ℤ pos greatest_number
IsInOrder (Deposit a reading reference bytes) readings = reading ≤ℤ pos greatest_number
IsInOrder (Calibrate c) readings = AllByRecursion (λ reading. reading ≤ℤ c.reading) readings
IsInOrder _ readings = Unit {0}

-- Each opening in that book is by the policy file, and readings are in order.
abbrev pub KeepsTo : PolicyValue → {b : History} {x : Option Setting} {w : List Told} → Journey b x w → Type 0
KeepsTo file begins = Unit {0}
KeepsTo file (opens s o e proper has done j) = (s.file ≡ file) × KeepsTo file j
KeepsTo file (opens_older s proper none unnamed j) = (s.file ≡ file) × KeepsTo file j
KeepsTo file (shuts s o e k proper has j) = KeepsTo file j
KeepsTo file (rests j) = KeepsTo file j
KeepsTo file (enters s c o e entering met has j) = IsInOrder c (readings_of j) × KeepsTo file j
KeepsTo file (breaks s c o e k entering met has j) = IsInOrder c (readings_of j) × KeepsTo file j
KeepsTo file (goes s c o e met has j) = IsInOrder c (readings_of j) × KeepsTo file j
KeepsTo file (stops s c o e k met has j) = IsInOrder c (readings_of j) × KeepsTo file j
KeepsTo file (continues floor above stated j) = Unit {0}

-- the history with which that book began, which is taken as it stands
abbrev pub begun_with : {b : History} {x : Option Setting} {w : List Told} → Journey b x w → History
begun_with begins = []
begun_with (opens s o e proper has done j) = begun_with j
begun_with (opens_older s proper none unnamed j) = begun_with j
begun_with (shuts s o e k proper has j) = begun_with j
begun_with (rests j) = begun_with j
begun_with (enters s c o e entering met has j) = begun_with j
begun_with (breaks s c o e k entering met has j) = begun_with j
begun_with (goes s c o e met has j) = begun_with j
begun_with (stops s c o e k met has j) = begun_with j
begun_with (continues {b = b} floor above stated j) = continued floor b

-- the row of a reservation of a history, and those of the reservations before it
abbrev pub row_in : History → ReservationValue → StampRow
row_in b r = stamp_of (token_of r.serial b) r

abbrev pub rows_before : History → History → List StampRow
rows_before b older = reverse (map (row_in b) (reservations older))

-- Each stamp of a history since that beginning is given by the rules of the policy file, with the rows before it; a
-- hold may have been added later. Where none was, holds are no exception.
pub record AreGivenByRules (file : PolicyValue) (beginning b : History) : Type 0 where
  pub given : (newer older : History) (r : ReservationValue) → b ≡ newer ++ Reserved r ∷ older
      → length beginning ≤ length older
      → IsGivenByRules (unheld (evidence_in file b)) (before_of (rows_before b older) (row_in b r)) (row_in b r)
  pub unheld_since : (newer older : History) (r : ReservationValue) → b ≡ newer ++ Reserved r ∷ older
      → length beginning ≤ length older → holds newer ≡ []
      → IsGivenByRules (evidence_in file b) (before_of (rows_before b older) (row_in b r)) (row_in b r)
