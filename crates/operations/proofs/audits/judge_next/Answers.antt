use Rattle.book.specs.Values.{stamp_view}
use Rattle.operations.proofs.ExaminedStamps.{judged_so}
use Rattle.operations.proofs.audits.judge_next.Goals as goal

pub returns-clause-judged : goal.returns-clause-judged
returns-clause-judged c = λ b rows known.
    judged_so c.args.asked.now b rows (stamp_view c.args.stamp.now) c.args.kept.now c.judge_next.new.self
    c.judge_next.result c.if-not-asked.false known (c.judge_next.ensures.judged b rows)
