use Rattle.book.specs.Values.{stamp_view}
use Rattle.tsp.specs.View.{request_view, tst_view}
use Rattle.decide.specs.View.{plan_view}
use Rattle.judgement.specs.View.{evidence_view}
use Rattle.judgement.proofs.Comparisons.{AreRead, compared, no_stamp, tells_stamp}
use Rattle.judgement.proofs.row.is_stamp_by.Goals as goal

pub returns-in_default : goal.returns-in_default
returns-in_default c = (
  λ e. absurd (cc e),
  λ k. absurd (no_stamp (evidence_view c.args.evidence.now) (request_view c.args.request.now)
      (plan_view c.args.plan.now) (stamp_view c.args.stamp.now) c.deref.result.now c.deref.ensures.value
      c.in_default.ensures.only k),
)

pub returns-then-not-is_consistent : goal.returns-then-not-is_consistent
returns-then-not-is_consistent c =
    let stamp = stamp_view c.args.stamp.now in
    let r = request_view c.args.request.now in
    let read : AreRead r stamp c.deref.result.now (tst_view c.in-Ok.tst) = record {
      same = c.deref.ensures.value;
      spelled = c.in-Ok.ensures.found;
      one_tst = c.in-Ok.ensures.only;
      asked = c.requires.asked;
      short = c.requires.short;
      one_request = λ s k. c.requests_have_one_reading.ensures.one _ s r k c.requires.asked;
    } in (
      λ e. absurd (cc e),
      λ k. (let yes = c.is_consistent.ensures.1 (compared (evidence_view c.args.evidence.now) r
          (plan_view c.args.plan.now) stamp c.deref.result.now (tst_view c.in-Ok.tst) read k).consistent in absurd cc),
    )

pub returns : goal.returns
returns c =
    let stamp = stamp_view c.args.stamp.now in
    let r = request_view c.args.request.now in
    let read : AreRead r stamp c.deref.result.now (tst_view c.in-Ok.tst) = record {
      same = c.deref.ensures.value;
      spelled = c.in-Ok.ensures.found;
      one_tst = c.in-Ok.ensures.only;
      asked = c.requires.asked;
      short = c.requires.short;
      one_request = λ s k. c.requests_have_one_reading.ensures.one _ s r k c.requires.asked;
    } in
    tells_stamp (evidence_view c.args.evidence.now) r (plan_view c.args.plan.now) stamp c.deref.result.now
    (tst_view c.in-Ok.tst) c.answers.result read (c.is_consistent.ensures.0 c.if-not-is_consistent.false)
    (c.has_columns.ensures.0 c.if-not-has_columns.false) c.answers.ensures
