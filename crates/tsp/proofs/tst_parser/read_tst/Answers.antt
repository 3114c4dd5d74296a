use Rattle.std.proofs.Common.{◌≡◌}
use Rattle.tsp.{specs.Tst.tst_info, specs.View.tst_view, proofs.Spelled.ok_only}
use Rattle.tsp.proofs.tst_parser.read_tst.Goals as goal

pub returns-in-Ok-clause-only : goal.returns-in-Ok-clause-only
returns-in-Ok-clause-only c = λ t h.
    let is = c.in-Ok.ensures.only (tst_info t) h.lawful h.spelled in
    ok_only (λ tst. tst_view tst ≡ t) c.tst_info_from.result c.ok_or.result c.ok_or.ensures.value
    (c.tst_info_from.ensures.only t h.ranges is)

-- octets that are no lawful value are no TSTInfo's
pub returns-in-Err-clause-only : goal.returns-in-Err-clause-only
returns-in-Err-clause-only c = λ t h. c.in-Err.ensures.only (tst_info t) h.lawful h.spelled
