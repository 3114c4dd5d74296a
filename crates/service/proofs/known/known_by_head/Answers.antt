use Rattle.std.proofs.Common.{◌≡◌, ◌∙◌, ap, sym}
use Rattle.service.specs.Received.{ends_with_body, has_no_body}
use Rattle.service.specs.{Checks.wanted_by, Heads.head_value, Views.head_view, Views.wanted_view}
use Rattle.service.proofs.KnownLemmas.{parsed_now, refused_now}
use Rattle.service.proofs.known.known_by_head.Goals as goal

pub returns-in-Ok-clause-known : goal.returns-in-Ok-clause-known
returns-in-Ok-clause-known c =
    let is = c.requires in
    let same : head_view c.head_in-head.result ≡ head_value is.read = c.head_in-head.ensures.head is.read is.at in
    parsed_now c.args.octets.now c.args.headers.now c.args.spans is (wanted_view c.in-Ok.wanted)
    c.ends_with_body.result (ap wanted_by (sym same) ∙ sym c.in-Ok.ensures.value)
    (λ all. ap ends_with_body (sym same) ∙ sym c.ends_with_body.ensures ∙ all)

pub returns-in-Err-clause-known : goal.returns-in-Err-clause-known
returns-in-Err-clause-known c =
    let is = c.requires in
    let same : head_view c.head_in-head.result ≡ head_value is.read = c.head_in-head.ensures.head is.read is.at in
    refused_now c.args.octets.now c.args.headers.now c.args.spans is c.in-Err.refusal c.has_no_body.result
    (ap wanted_by (sym same) ∙ sym c.in-Err.ensures.value)
    (λ all. ap has_no_body (sym same) ∙ sym c.has_no_body.ensures ∙ all)
