-- Above what `continue` has a history go on, and where.
use Rattle.std.specs.Prelude.{ℕ, List, Option, option_map}
use Rattle.command_line.specs.{declared.words.ContinueWords.ContinueWords, declared.words.FloorWords.FloorWords}
use Rattle.operations.specs.declared.void_stamp.Floor.{Floor}

abbrev pub floor_in : FloorWords → Floor
floor_in words = record { serial = words.above; gen_time = words.moment }

-- the serial number and the moment that later stamps come after, where the words state them
abbrev pub floor_of : ContinueWords → Option Floor
floor_of words = option_map floor_in words.floor

-- what is so above a floor is so above that of the words, and what is so at a path at that of their new database
abbrev pub IsContinuedBy : (Option Floor → Type 0) → (List ℕ → Type 0) → ContinueWords → Type 0
IsContinuedBy IsContinued IsFree words = IsContinued (floor_of words) × IsFree words.db.now
