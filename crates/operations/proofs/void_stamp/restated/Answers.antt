use Rattle.std.proofs.Common.{◌≤◌, ◌∙◌, None, ap, inl, inr, length, sym, subst, arith}
use Rattle.der.specs.Node.{encoding, IsLawful}
use Rattle.tsp.specs.{Request.Spells, Tst.SpellsTst, Tst.tst_info, View.request_view, View.tst_view}
use Rattle.operations.proofs.void_stamp.restated.Goals as goal

pub write_tst-requires-clause-lawful : goal.write_tst-requires-clause-lawful
write_tst-requires-clause-lawful c =
    let before = c.in-Ok-read_tst.ensures.found.ranges in
    subst (λ t. IsLawful (tst_info t)) (sym c.into_tst_info-tst_info.ensures)
    (c.requests_have_one_reading.ensures.answer c.deref.result.now (request_view c.in-Ok.request)
    c.in-Ok.ensures.found c.in-Ok.ensures.short c.in-Ok-read_tst.before.policy c.args.serial c.args.gen_time
    c.in-Ok-read_tst.before.accuracy c.in-Ok-read_tst.before.ordering None before.policy c.requires.some
    (omega (arith, c.requires.within)) c.micros-bound.ensures.bound before.some_accuracy before.most_accuracy tt).1

pub returns-in-Ok-write_tst-clause-restated : goal.returns-in-Ok-write_tst-clause-restated
returns-in-Ok-write_tst-clause-restated c =
    let before = c.in-Ok-read_tst.ensures.found.ranges in
    let answer =
    c.requests_have_one_reading.ensures.answer c.deref.result.now (request_view c.in-Ok.request)
    c.in-Ok.ensures.found c.in-Ok.ensures.short c.in-Ok-read_tst.before.policy c.args.serial c.args.gen_time
    c.in-Ok-read_tst.before.accuracy c.in-Ok-read_tst.before.ordering None before.policy c.requires.some
    (omega (arith, c.requires.within)) c.micros-bound.ensures.bound before.some_accuracy before.most_accuracy tt in
    record {
      request = request_view c.in-Ok.request;
      spelled = subst (λ octets. Spells octets (request_view c.in-Ok.request)) c.deref.ensures.value
          c.in-Ok.ensures.found;
      before = tst_view c.in-Ok-read_tst.before;
      read = subst (λ octets. SpellsTst octets (tst_view c.in-Ok-read_tst.before)) c.deref-2.ensures.value
          c.in-Ok-read_tst.ensures.found;
      restated = record {
        ranges = answer.0;
        lawful = answer.1;
        spelled = c.in-Ok-write_tst.ensures.text ∙ ap (λ t. encoding (tst_info t)) c.into_tst_info-tst_info.ensures;
      };
    }

pub returns-in-Ok-write_tst-clause-unread : goal.returns-in-Ok-write_tst-clause-unread
returns-in-Ok-write_tst-clause-unread c = (
  λ is. absurd (let apart = is in cc),
  λ unread. absurd (elim unread [
    | inl none ↦ none (request_view c.in-Ok.request)
        (subst (λ octets. Spells octets (request_view c.in-Ok.request)) c.deref.ensures.value c.in-Ok.ensures.found)
        (subst (λ octets. length octets ≤ 65536) c.deref.ensures.value c.in-Ok.ensures.short)
    | inr none ↦ none (tst_view c.in-Ok-read_tst.before)
        (subst (λ octets. SpellsTst octets (tst_view c.in-Ok-read_tst.before)) c.deref-2.ensures.value
        c.in-Ok-read_tst.ensures.found)
  ]),
)

pub returns-in-Err-clause-unread : goal.returns-in-Err-clause-unread
returns-in-Err-clause-unread c = (
  λ is. absurd (let apart = is in cc),
  λ unread. absurd (elim unread [
    | inl none ↦ none (request_view c.in-Ok.request)
        (subst (λ octets. Spells octets (request_view c.in-Ok.request)) c.deref.ensures.value c.in-Ok.ensures.found)
        (subst (λ octets. length octets ≤ 65536) c.deref.ensures.value c.in-Ok.ensures.short)
    | inr none ↦ none (tst_view c.in-Ok-read_tst.before)
        (subst (λ octets. SpellsTst octets (tst_view c.in-Ok-read_tst.before)) c.deref-2.ensures.value
        c.in-Ok-read_tst.ensures.found)
  ]),
)
