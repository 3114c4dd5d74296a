use Rattle.std.proofs.{Common.map, Common.sym, Common.◌∙◌, lemmas.Result.err_from_is_err_and}
use Rattle.desk.specs.{Batches.seal_entry, auxiliary.Completions.seal_view}
use Rattle.desk.proofs.stamps.Committed.{some_of_both, unmet}
use Rattle.desk.proofs.completion.seal_each.Goals as goal

pub returns-in_err-entries-clause-commits : goal.returns-in_err-entries-clause-commits
returns-in_err-entries-clause-commits g c =
    let told = err_from_is_err_and c.from_residual.result c.from_residual.ensures.1 in
    let seals = c.args.seals.now in
    let some = some_of_both seal_entry seal_view seals (sym c.is_empty.ensures ∙ c.if-is_empty.false) in
    rw (told.1, told.2) (unmet g.B.Standing (map seal_entry (map seal_view seals)) c.args.store.now
    c.in_err-entries.field-0.0 some c.in_err-entries.ensures.refused)
