-- Under which serial numbers a journey gave texts out to be signed: those that a signer was asked for, and those that
-- `Begin` answered.
use Rattle.std.specs.Prelude.{ℕ, ◌<◌, ◌≤◌, List, [], ◌++◌, ◌∷◌, map, drop, Option, Some, None}
use Rattle.std.specs.List.{AllByRecursion}
use Rattle.book.specs.History.{Entry, History, reservations, greatest_serial}
use Rattle.desk.specs.Command.{Setting, Answer, Stamped, Rejected, Begun, Kept, Shown, Listed, Done, Numbered, Refused}
use Rattle.desk.specs.MachineRuns.{Told, Journey, begins, opens, opens_older, shuts, rests, enters, breaks, goes, stops}
use Rattle.desk.specs.MachineRuns.{continues}

-- the serial numbers that entries reserve, the newest first
abbrev pub serials_of : List Entry → List ℕ
serials_of entries = map (λ r. r.serial) (reservations entries)

-- The serial numbers of the texts that a command may have given out once these of its entries are committed: where it
-- has a text signed, or answers with one that waits for its signature, those that it has reserved. By no other answer a
-- text leaves.
abbrev pub given_by : Option (List ℕ) → Answer → List Entry → List ℕ
given_by (Some text) answer committed = serials_of committed
given_by None (Begun p) committed = serials_of committed
given_by None (Stamped serial reply) committed = []
given_by None (Rejected rule) committed = []
given_by None (Kept number is_new) committed = []
given_by None (Shown octets) committed = []
given_by None (Listed rows) committed = []
given_by None Done committed = []
given_by None (Numbered number) committed = []
given_by None (Refused f) committed = []

-- The same along a journey, the newest first. Of a command that a stop cut, what it had committed before the stop
-- counts.
abbrev pub given_along : {b : History} {x : Option Setting} {w : List Told} → Journey b x w → List ℕ
given_along begins = []
given_along (opens s o e proper h done j) = given_along j
given_along (opens_older s proper none unnamed j) = given_along j
given_along (shuts s o e k proper h j) = given_along j
given_along (rests j) = given_along j
given_along (enters s c o e entering met h j) = given_along j
given_along (breaks s c o e k entering met h j) = given_along j
given_along (goes s c o e met h j) = given_by e.asks e.says e.adds ++ given_along j
given_along (stops s c o e k met h j) = given_by e.asks e.says (drop k e.adds) ++ given_along j
given_along (continues floor above stated j) = given_along j

-- each number is above all that come after it
abbrev pub Falls : List ℕ → Type 0
Falls [] = Unit {0}
Falls (n ∷ ns) = AllByRecursion (λ m. m < n) ns × Falls ns

-- From the newest to the oldest the serial numbers fall strictly, so none comes twice, and none is above the greatest
-- that the history has reserved.
pub record AreInOrder (serials : List ℕ) (b : History) : Type 0 where
  pub falling : Falls serials
  pub within : AllByRecursion (λ n. n ≤ greatest_serial b) serials
