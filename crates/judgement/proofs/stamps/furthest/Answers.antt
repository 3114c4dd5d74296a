use Rattle.std.proofs.Common.{Some, None, subst}
use Rattle.judgement.specs.{Readings.EvidenceValue, Readings.unheld, auxiliary.Search.IsGoodClock, View.evidence_view}
use Rattle.judgement.proofs.Judging.{found_furthest, none_furthest}
use Rattle.judgement.proofs.stamps.furthest.Goals as goal

pub returns-in-Some : goal.returns-in-Some
returns-in-Some c =
    let G : EvidenceValue → Type 0 = λ e. IsGoodClock e c.args.before.now.last_gen_time c.args.gen_time e.calibrations
    (Some c.in-Some.clock) in
    found_furthest (unheld (evidence_view c.args.evidence.now)) c.args.before.now c.args.gen_time c.in-Some.clock
    (subst G c.unheld.ensures c.in-Some.ensures)

pub returns-in-None : goal.returns-in-None
returns-in-None c =
    let G : EvidenceValue → Type 0 = λ e. IsGoodClock e c.args.before.now.last_gen_time c.args.gen_time e.calibrations
    None in
    none_furthest (unheld (evidence_view c.args.evidence.now)) c.args.before.now c.args.gen_time
    (subst G c.unheld.ensures c.in-None.ensures)
