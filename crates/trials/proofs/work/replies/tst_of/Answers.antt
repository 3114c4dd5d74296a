use Rattle.std.proofs.Common.{None, sym, subst, arith}
use Rattle.der.specs.{Node.IsLawful, ObjectIdentifier.IsOid}
use Rattle.tsp.specs.{Tst.tst_info, View.request_view}
use Rattle.trials.proofs.work.replies.tst_of.Goals as goal

pub write_tst-requires-clause-lawful : goal.write_tst-requires-clause-lawful
write_tst-requires-clause-lawful c =
    let counter = c.args.policy.now.counter in
    let oid = subst IsOid (sym c.of.ensures.same) c.of.ensures.oid in
    subst (λ t. IsLawful (tst_info t)) (sym c.into_tst_info-tst_info.ensures)
    (c.requests_have_one_reading.ensures.answer c.args.query.now (request_view c.args.request)
    c.requires.spelled c.requires.short c.of.result 1 c.args.plan.gen_time
    counter.accuracy_us counter.ordering None oid (omega arith) (omega arith) c.micros-micros.ensures.bound
    counter.accuracy_some counter.accuracy tt).1
