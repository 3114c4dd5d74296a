-- The lines of the deposits before.
use Rattle.std.proofs.Common.{◌≡◌, take, map}
use Rattle.std.specs.List.{flat_map}
use Rattle.book.specs.Values.{listed_view}
use Rattle.service.specs.Answers.{listed_line}
use Rattle.service.proofs.lists.listed_lines.Given as goal

abbrev pub invariant-loop-row : goal.invariant-loop-row
invariant-loop-row l = l.lines.items ≡ flat_map listed_line (map listed_view (take l.row-index l.rows))
