-- The tables after each entry in turn: a stepping stone, no definition.
use Rattle.std.specs.Prelude.{[], ◌∷◌}
use Rattle.tables.specs.{Changes.applied, Tables.Tables, Tables.no_rows}
use Rattle.book.specs.History.{History}

abbrev pub replayed : History → Tables
replayed [] = no_rows
replayed (entry ∷ b) = applied entry (replayed b)
