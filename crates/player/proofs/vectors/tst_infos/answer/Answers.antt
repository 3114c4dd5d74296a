use Rattle.std.proofs.Common.{sym, subst, arith, rules}
use Rattle.std.specs.Option.{option_map}
use Rattle.der.specs.{DataValueView.value_view, Node.IsLawful, ObjectIdentifier.IsOid}
use Rattle.tsp.specs.{Tst.tst_info, View.request_view}
use Rattle.player.proofs.vectors.tst_infos.answer.Goals as goal

-- what answers a request is lawful
pub write_tst-requires-clause-lawful : goal.write_tst-requires-clause-lawful
write_tst-requires-clause-lawful c =
    let answered = c.requests_have_one_reading.ensures.answer _ (request_view c.in_ok-request.request)
    c.in_ok-request.ensures.found c.in_ok-request.ensures.short c.of.result c.args.serial c.args.gen_time
    c.args.accuracy c.args.ordering (option_map value_view c.name_of.result)
    (subst IsOid (sym c.of.ensures.same) c.of.ensures.oid) (omega arith) (omega arith) (search rules) (omega arith)
    (omega arith) c.name_of.ensures in
    subst (λ t. IsLawful (tst_info t)) (sym c.into_tst_info-tst.ensures) answered.1
