use Rattle.std.proofs.Common.{◌+◌, sym, subst, arith, option_map}
use Rattle.der.specs.{DataValueView.value_view, Node.IsLawful, ObjectIdentifier.IsOid}
use Rattle.tsp.specs.{Tst.answer, Tst.tst_info, View.request_view}
use Rattle.desk.proofs.reservation.prepare.Goals as goal

pub write_tst-requires-clause-lawful : goal.write_tst-requires-clause-lawful
write_tst-requires-clause-lawful c =
    let counter = c.args.settings.policy.now.counter in
    let oid = subst IsOid (sym c.of.ensures.same) c.of.ensures.oid in
    subst (λ t. IsLawful (tst_info t)) (sym c.into_tst_info-tst_info.ensures)
    (c.requests_have_one_reading.ensures.answer c.in-Some.query.now (request_view c.args.planned.request)
    (rw c.in-Some.is at c.requires.spelled) (rw c.in-Some.is at c.requires.short) c.of.result
    (c.args.planned.last + 1) c.args.planned.gen_time counter.accuracy_us counter.ordering
    (option_map value_view c.name_in_force.result) oid (omega arith) (omega arith)
    c.micros_of-micros.ensures.within counter.accuracy_some counter.accuracy c.name_in_force.ensures.fitting).1
