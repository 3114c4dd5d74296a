use Rattle.std.proofs.Common.{SFits, rules, to_z-of_z, w64}
use Rattle.desk.specs.Batches.{stamp_for}
use Rattle.service.proofs.request.Request.write_stamped.Goals as goal

pub returns-clause-sent : goal.returns-clause-sent
returns-clause-sent g c = λ asked.
    let fits : SFits w64 c.args.reading = search rules in
    rw (to_z-of_z fits) at c.write_reply.ensures.sent (stamp_for asked)
