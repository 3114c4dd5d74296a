use Rattle.std.proofs.{Common.◌∙◌, Common.ap, Common.inr, lemmas.Result.err_from_is_err_and}
use Rattle.tsp.specs.{Rules.IsSpelled, View.request_view, declared.rule.Rule.TheVariants.Spelling}
use Rattle.console.specs.{Settings.settings_value, declared.fault.Fault.TheVariants.Tsp}
use Rattle.console.proofs.Judgement.{only_request, lifted, granted, rejected, first_lifted, spelling_fails}
use Rattle.console.proofs.tst.tst_reply.Goals as goal

pub write_reply-requires-clause-lawful : goal.write_reply-requires-clause-lawful
write_reply-requires-clause-lawful c =
    λ t ranges imprint nonce extensions. c.requests_have_one_reading.ensures.lawful c.args.query.now
    (request_view c.in-Ok.request) t
    c.in-Ok.ensures.found c.in-Ok.ensures.short ranges imprint nonce extensions

pub returns-in_ok-write_reply-in-None-clause-reply : goal.returns-in_ok-write_reply-in-None-clause-reply
returns-in_ok-write_reply-in-None-clause-reply c =
    let query = c.args.query.now in
    let r = request_view c.in-Ok.request in
    let only = only_request query r c.in-Ok.ensures.found c.in-Ok.ensures.short
    c.requests_have_one_reading.ensures.one in
    granted (settings_value c.args.settings.now) query r c.in_ok-write_reply-in-None.field-0.items only
    c.in-None.ensures
    c.in_ok-write_reply-in-None.ensures.text

-- a TSTInfo is written only where each rule holds
pub returns-in_err-write_reply-in-None-clause-memory : goal.returns-in_err-write_reply-in-None-clause-memory
returns-in_err-write_reply-in-None-clause-memory c =
    let failing = err_from_is_err_and c.from_residual.result c.from_residual.ensures.1 in
    let query = c.args.query.now in
    let r = request_view c.in-Ok.request in
    let only = only_request query r c.in-Ok.ensures.found c.in-Ok.ensures.short
    c.requests_have_one_reading.ensures.one in
    rw failing.1
    (inr (
      failing.2 ∙ ap Tsp c.in_err-write_reply-in-None.ensures.memory,
      λ rule. lifted query r only rule (c.in-None.ensures rule),
    ))

pub returns-in_ok-write_rejection-in-Some-clause-reply : goal.returns-in_ok-write_rejection-in-Some-clause-reply
returns-in_ok-write_rejection-in-Some-clause-reply c =
    let query = c.args.query.now in
    let r = request_view c.in-Ok.request in
    let only = only_request query r c.in-Ok.ensures.found c.in-Ok.ensures.short
    c.requests_have_one_reading.ensures.one in
    rejected (settings_value c.args.settings.now) query c.in-Some.rule c.in_ok-write_rejection-in-Some.field-0.items
    (first_lifted query r only c.in-Some.rule c.in-Some.ensures)
    c.in_ok-write_rejection-in-Some.ensures.text

pub returns-in_ok-write_rejection-in-Err-clause-reply : goal.returns-in_ok-write_rejection-in-Err-clause-reply
returns-in_ok-write_rejection-in-Err-clause-reply c =
    let query = c.args.query.now in
    let fails : IsSpelled query → ⊥ = λ spelled. c.in-Err.ensures.only spelled.0.0 spelled.0.1 spelled.1 in
    rejected (settings_value c.args.settings.now) query Spelling c.in_ok-write_rejection-in-Err.field-0.items
    (spelling_fails query fails)
    c.in_ok-write_rejection-in-Err.ensures.text
