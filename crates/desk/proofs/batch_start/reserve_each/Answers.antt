use Rattle.std.proofs.{Common.map, Common.sym, Common.◌∙◌, lemmas.Result.err_from_is_err_and}
use Rattle.book.specs.History.{Reserved}
use Rattle.desk.specs.WaitingStamps.{waiting_view}
use Rattle.desk.proofs.stamps.Committed.{some_of_both, unmet}
use Rattle.desk.proofs.batch_start.reserve_each.Goals as goal

pub returns-in_err-entries-clause-commits : goal.returns-in_err-entries-clause-commits
returns-in_err-entries-clause-commits g c =
    let told = err_from_is_err_and c.from_residual.result c.from_residual.ensures.1 in
    let waits = c.args.waits.now in
    let some = some_of_both Reserved waiting_view waits (sym c.is_empty.ensures ∙ c.if-is_empty.false) in
    rw (told.1, told.2) (unmet g.B.Standing (map Reserved (map waiting_view waits)) c.args.store.now
    c.in_err-entries.field-0.0 some c.in_err-entries.ensures.refused)
