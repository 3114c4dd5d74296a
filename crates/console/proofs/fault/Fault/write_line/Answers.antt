use Rattle.std.proofs.Common.{[], ◌∷◌, ◌++◌}
use Rattle.std.specs.Fmt.{decimal}
use Rattle.console.proofs.Writes.{begins_after, begins_before, begins_whatever}
use Rattle.console.specs.Fault.{line_beginning, number_of_fault}
use Rattle.console.proofs.fault.Fault.write_line.Goals as goal

pub returns-in-Ok-clause-begun : goal.returns-in-Ok-clause-begun
returns-in-Ok-clause-begun g c =
    let end = decimal (number_of_fault c.args.self) ++ 10 ∷ [] in
    let is = rw c.line_beginning.ensures at c.in-Ok.ensures.written in
    let wrote = c.write_text-in-Ok.ensures in
    let begun = begins_whatever _ _ _ c.write_text-in-Ok.result wrote.written wrote.begun in
    begins_after _ _ _ (line_beginning c.args.self) end is
    (rw (c.line_end.ensures, c.number.ensures.number) at begun)

pub returns-in-Err-clause-begun : goal.returns-in-Err-clause-begun
returns-in-Err-clause-begun g c =
    let end = decimal (number_of_fault c.args.self) ++ 10 ∷ [] in
    let begun = rw c.line_beginning.ensures at c.in-Err.ensures.begun in
    begins_before _ _ (line_beginning c.args.self) end begun
