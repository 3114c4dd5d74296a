use Rattle.std.proofs.Common.{◌≡◌, ◌∙◌, ◌+◌, length, ap, arith}
use Rattle.service.proofs.ExtractLemmas.{rows_cut, all_written}
use Rattle.service.proofs.extracts.send_extract.Goals as goal

pub returns-then-written-length-clause-sent : goal.returns-then-written-length-clause-sent
returns-then-written-length-clause-sent g c =
    let head = c.as_bytes.result.now in
    let states = c.as_bytes.ensures.value ∙ c.as_str.ensures.value ∙ c.head_text-head.ensures.value in
    let text = ap length c.as_bytes.ensures.value ∙ ap length c.as_str.ensures.value in
    let octets = c.write_extract-written.result.octets in
    let sent : length head + octets ≡ c.len-then-written-length.result + octets =
    omega (arith, c.len-then-written-length.ensures.value, text) in
    rw (c.as_u16-status.ensures.value, ← sent)
    (rows_cut _ _ _ _ _ _ _ _ _ _ _ head states
    c.write_octets-of_head.result octets c.write_extract-written.result.outcome
    (omega (arith, c.if-of_head-len.false, c.len.ensures.value, text)) c.write_octets-of_head.ensures.written
    c.write_extract-written.ensures.written c.if-written-length.true)

pub returns-clause-sent : goal.returns-clause-sent
returns-clause-sent g c =
    let head = c.as_bytes.result.now in
    let states = c.as_bytes.ensures.value ∙ c.as_str.ensures.value ∙ c.head_text-head.ensures.value in
    let text = ap length c.as_bytes.ensures.value ∙ ap length c.as_str.ensures.value in
    rw c.as_u16-status.ensures.value
    (all_written _ _ _ _ _ _ _ _ _ _ _ head states
    c.write_octets-of_head.result c.write_extract-written.result.octets c.write_extract-written.result.outcome
    (omega (arith, c.if-of_head-len.false, c.len.ensures.value, text)) c.write_octets-of_head.ensures.written
    c.write_extract-written.ensures.written (omega (arith, c.if-written-length.false))
    c.write_extract-written.ensures.within)
