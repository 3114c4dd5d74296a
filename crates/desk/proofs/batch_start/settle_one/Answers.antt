use Rattle.std.proofs.Common.{[], Ok, refl}
use Rattle.desk.specs.Calls.{settings_view}
use Rattle.desk.specs.{Outcome.ByCause, Outcome.all_fine, Together.question_view}
use Rattle.desk.proofs.stamps.BatchJudgement.{judged_refused, refused_why}
use Rattle.desk.proofs.batch_start.settle_one.Goals as goal

pub returns-in-Ok : goal.returns-in-Ok
returns-in-Ok g c reserving refusal =
    let why = refused_why reserving refusal in (
      ByCause why.0,
      record (all_fine (Ok [])) { adding = reserving },
      refl,
      judged_refused g.B.Standing (settings_view c.args.settings) (question_view c.args.asked) c.in-Ok._waiting
          reserving why.0 c.args.store.now c.judge_one.new.store why.1 c.in-Ok.ensures.judges,
    )
