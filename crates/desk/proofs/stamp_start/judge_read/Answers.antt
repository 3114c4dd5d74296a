use Rattle.std.proofs.{Common.subst, Common.inl, lemmas.Result.err_from_is_err_and}
use Rattle.std.specs.Prelude.{IfOk}
use Rattle.desk.specs.{auxiliary.Beginnings.WaitsFor, Calls.settings_view, Calls.plan_of, Calls.refused, Calls.why_of}
use Rattle.desk.specs.{Together.question_with, WaitingStamps.with_waiting}
use Rattle.desk.proofs.stamps.BatchJudgement.{judged_err, judged_planned, found_settled}
use Rattle.desk.proofs.stamp_start.judge_read.Goals as goal

pub returns-in_err-planned-clause-judges : goal.returns-in_err-planned-clause-judges
returns-in_err-planned-clause-judges g c octets spelled short given =
    let s = settings_view c.args.settings in
    let a = question_with c.args.requested octets in
    let ws = c.args.waits.now in
    let found = c.in_err-planned.ensures in
    let r = c.in_err-planned.field-0.0 in
    let told = err_from_is_err_and c.from_residual.result c.from_residual.ensures.1 in
    rw (told.1, told.2) (judged_err g.B.Standing s a ws r c.args.store.now c.judge.new.store (inl found.refusals)
    found.somebody found.looks found.counted
    (λ honest b st sound. found_settled s a (refused r) (with_waiting ws b) (why_of r)
    (found.finds honest b st sound octets spelled short)) (λ rule first. found.unasked octets spelled short rule first))

pub returns-clause-judges : goal.returns-clause-judges
returns-clause-judges g c octets spelled short given =
    let s = settings_view c.args.settings in
    let a = question_with c.args.requested octets in
    let found = c.in_ok-planned.ensures in
    let plan = plan_of c.in_ok-planned.planned in
    let last = c.in_ok-planned.planned.last in
    judged_planned g.B.Standing s a c.args.waits.now plan last c.prepare.result c.args.store.now c.judge.new.store
    (subst (λ name. IfOk c.prepare.result (WaitsFor s name plan octets last)) c.name_of-account.ensures
    (c.prepare.ensures.waits octets given)) c.prepare.ensures.unwritten found.looks found.counted
    (λ honest b st sound. found.finds honest b st sound octets spelled short) found.last found.rises
    (λ rule first. (found.unasked octets spelled short rule first).0)
