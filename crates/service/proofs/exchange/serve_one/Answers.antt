use Rattle.std.proofs.Common.{SFits, rules, to_z-of_z, w64}
use Rattle.service.proofs.exchange.serve_one.Goals as goal

pub returns-clause-failed : goal.returns-clause-failed
returns-clause-failed g c =
    let fits : SFits w64 c.args.reading = search rules in
    rw (to_z-of_z fits) at c.serve_over.ensures.failed
