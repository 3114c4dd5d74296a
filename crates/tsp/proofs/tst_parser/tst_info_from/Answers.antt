use Rattle.der.specs.DataValueView.{value_view}
use Rattle.tsp.proofs.TstRead.{only_from_time, found_from_time, none_from_read}
use Rattle.tsp.proofs.tst_parser.tst_info_from.Goals as goal

pub returns-in_err-parts_from-clause-only : goal.returns-in_err-parts_from-clause-only
returns-in_err-parts_from-clause-only c =
    λ t ranges is. absurd (none_from_read (value_view c.args.value) t ranges is c.in_err-parts_from.ensures)

pub returns-clause-found : goal.returns-clause-found
returns-clause-found c = found_from_time (value_view c.args.value) c.in_ok-parts_from.field-0 c.tst_from.result
    c.in_ok-parts_from.ensures c.tst_from.ensures.found

pub returns-clause-only : goal.returns-clause-only
returns-clause-only c = λ t ranges is. only_from_time (value_view c.args.value) c.in_ok-parts_from.field-0 t
    c.tst_from.result c.in_ok-parts_from.ensures ranges is c.tst_from.ensures.found c.tst_from.ensures.only
