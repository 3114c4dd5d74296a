-- Who may read a deposit after a journey: what was acknowledged of rights, and what the stops left, in their order.
use Rattle.std.specs.Prelude.{List, [], ◌∷◌, ◌++◌, drop, Option}
use Rattle.book.specs.History.{Entry, Granted, Revoked, History}
use Rattle.desk.specs.Command.{Command, Grant, Revoke, Answer, Done}
use Rattle.desk.specs.MachineRuns.{Told, Journey, begins, opens, opens_older, shuts, rests, enters, breaks, goes, stops}
use Rattle.desk.specs.{MachineRuns.continues, Command.Setting}

-- the entry, where it is done
abbrev pub where_done : Entry → Answer → List Entry
where_done entry Done = entry ∷ []
where_done entry _ = []

-- what an answer acknowledges of rights
abbrev pub rights_by : Command → Answer → List Entry
rights_by (Grant a n reader) answer = where_done (Granted n reader) answer
rights_by (Revoke a n reader) answer = where_done (Revoked n reader) answer
rights_by _ answer = []

-- the rights that a journey acknowledged, and the entries that its stops left, the newest first; of a new book those in
-- it
abbrev pub rights_along : {b : History} {x : Option Setting} {w : List Told} → Journey b x w → List Entry
rights_along begins = []
rights_along (opens s o e proper h done j) = rights_along j
rights_along (opens_older s proper none unnamed j) = rights_along j
rights_along (shuts s o e k proper h j) = rights_along j
rights_along (rests j) = rights_along j
rights_along (enters s c o e entering met h j) = rights_by c e.says ++ rights_along j
rights_along (breaks s c o e k entering met h j) = drop k e.adds ++ rights_along j
rights_along (goes s c o e met h j) = rights_by c e.says ++ rights_along j
rights_along (stops s c o e k met h j) = drop k e.adds ++ rights_along j
rights_along (continues floor above stated j) = []
