use Rattle.std.proofs.Common.{◌≡◌}
use Rattle.der.specs.DataValueView.{value_view}
use Rattle.tsp.specs.{Request.time_stamp_req, View.request_view}
use Rattle.tsp.proofs.Spelled.{found_from_read, only_from_read, read_from_spelled, ok_found, ok_only, not_form}
use Rattle.tsp.proofs.request.read_request.Goals as goal

pub returns-in-Ok-clause-found : goal.returns-in-Ok-clause-found
returns-in-Ok-clause-found c =
    ok_found _ c.request_from.result c.ok_or.result c.ok_or.ensures.value
    (found_from_read c.args.octets.now (value_view c.in-Ok.value) c.request_from.result c.in-Ok.ensures.found.0
    c.in-Ok.ensures.found.1 c.request_from.ensures)

pub returns-in-Ok-clause-only : goal.returns-in-Ok-clause-only
returns-in-Ok-clause-only c = λ r h short.
    let is = c.in-Ok.ensures.only (time_stamp_req h.stated r) h.lawful h.spelled in
    ok_only (λ request. request_view request ≡ r) c.request_from.result c.ok_or.result c.ok_or.ensures.value
    (only_from_read (value_view c.in-Ok.value) r c.request_from.result c.request_from.ensures
    (read_from_spelled c.args.octets.now (value_view c.in-Ok.value) r h is))

pub returns-in-Ok-clause-form : goal.returns-in-Ok-clause-form
returns-in-Ok-clause-form c = λ form r h.
    let is = c.in-Ok.ensures.only (time_stamp_req h.stated r) h.lawful h.spelled in
    not_form (λ request. request_view request ≡ r) c.request_from.result c.ok_or.result c.ok_or.ensures.value form
    (only_from_read (value_view c.in-Ok.value) r c.request_from.result c.request_from.ensures
    (read_from_spelled c.args.octets.now (value_view c.in-Ok.value) r h is))

-- octets that are no lawful value spell no request
pub returns-in-Err-clause-only : goal.returns-in-Err-clause-only
returns-in-Err-clause-only c = λ r h short. c.in-Err.ensures.only (time_stamp_req h.stated r) h.lawful h.spelled

pub returns-in-Err-clause-form : goal.returns-in-Err-clause-form
returns-in-Err-clause-form c = λ form r h. c.in-Err.ensures.only (time_stamp_req h.stated r) h.lawful h.spelled
