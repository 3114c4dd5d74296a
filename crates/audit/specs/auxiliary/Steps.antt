-- What a walk over the stamps of a range writes of them: stepping stones, no definitions.
use Rattle.std.specs.Prelude.{◌≡◌, List, [], ℕ, ◌+◌, ◌++◌, length, Option, Some, None, Vec}
use Rattle.std.specs.declared.alloc.Global.{Global}
use Rattle.book.specs.Rows.{StampRow}
use Rattle.audit.specs.Extract.{stamp_text, stamps_text}

-- the line of the first of the stamps that were left, or none is left
abbrev pub IsNextLine : List StampRow → List StampRow → Option (Vec ℕ Global) → Type 0
IsNextLine before after None = (before ≡ []) × (after ≡ [])
IsNextLine before after (Some line) =
    (stamps_text before ≡ line.items ++ stamps_text after) × (length before ≡ length after + 1)

-- the line of some stamp
abbrev pub IsLine : Vec ℕ Global → Type 0
IsLine line = (stamp : StampRow) × (line.items ≡ stamp_text stamp)
