use Rattle.std.proofs.Common.{◌≡◌, refl, ap, ◌∙◌, subst, inl, inr, SFits, w64, to_z-of_z, rules}
use Rattle.policy.specs.View.{policy_view}
use Rattle.tsp.specs.{View.request_view, declared.rule.Rule.TheVariants.Clock}
use Rattle.decide.specs.{Clock.IsGood, Clock.IsGoodAt, View.account_asked}
use Rattle.desk.specs.{Facts.clock_of, Facts.facts_of, WaitingStamps.with_waiting}
use Rattle.desk.proofs.stamps.Judgement.{same_cause, facts_are, first_lifted, all_lifted, unasked_lifted, answered_for}
use Rattle.desk.proofs.{stamps.Judgement.looks_then, documents.Late.late_with}
use Rattle.desk.proofs.findings.ask.Goals as goal

pub returns-in-Err-clause-finds : goal.returns-in-Err-clause-finds
returns-in-Err-clause-finds g c honest d st sound octets spelled short judged =
    let b = with_waiting c.args.waits.now d in
    let file = policy_view c.args.policy.now in
    let account = account_asked c.args.requested.account in
    let r = request_view c.args.requested.request in (
      unasked_lifted file account octets r spelled (λ s h. c.requests_have_one_reading.ensures.one octets r s spelled h)
          short judged,
      inl (same_cause c.in-Err.fault c.in-Err.ensures.refusals),
    )

pub returns-in_default-clause-finds : goal.returns-in_default-clause-finds
returns-in_default-clause-finds g c honest d st sound octets spelled short judged =
    let b = with_waiting c.args.waits.now d in
    let file = policy_view c.args.policy.now in
    let account = account_asked c.args.requested.account in
    let r = request_view c.args.requested.request in
    let reading : SFits w64 c.args.requested.reading = search rules in
    let clock : c.in-Ok.looked.clock ≡ clock_of c.args.requested.reading b =
    ap (λ l. l.clock) (c.in-Ok.ensures.value honest d st sound) ∙ ap (λ x. clock_of x b) (to_z-of_z reading) in
    let bad = subst (λ x. IsGood file.counter x → ⊥) clock c.in_default.ensures.state in
    let first = c.verdicts_are_one.ensures.clock file account r (facts_of file account c.args.requested.reading b)
    judged bad in (
      first_lifted file account c.args.requested.reading octets b r (facts_of file account c.args.requested.reading b)
          refl spelled (λ s h. c.requests_have_one_reading.ensures.one octets r s spelled h) short Clock first,
      refl,
    )

pub returns-in-Err-count-clause-looks : goal.returns-in-Err-count-clause-looks
returns-in-Err-count-clause-looks g c =
    looks_then g.B.Standing _ _ _ c.in-Ok.ensures.looks c.in-Err-count.ensures.looks

pub returns-in-Err-count-clause-finds : goal.returns-in-Err-count-clause-finds
returns-in-Err-count-clause-finds g c honest d st sound octets spelled short judged =
    let b = with_waiting c.args.waits.now d in
    let file = policy_view c.args.policy.now in
    let account = account_asked c.args.requested.account in
    let r = request_view c.args.requested.request in
    let reading : SFits w64 c.args.requested.reading = search rules in
    let clock : c.in-Ok.looked.clock ≡ clock_of c.args.requested.reading b =
    ap (λ l. l.clock) (c.in-Ok.ensures.value (c.in-Err-count.ensures.looks.honest honest) d st sound)
    ∙ ap (λ x. clock_of x b) (to_z-of_z reading) in
    let good = subst (λ x. IsGood file.counter x) clock c.in-Good.ensures.state.0 in (
      unasked_lifted file account octets r spelled (λ s h. c.requests_have_one_reading.ensures.one octets r s spelled h)
          short judged,
      inr (refl, good, same_cause c.in-Err-count.fault c.in-Err-count.ensures.refusals),
    )

pub returns-in-Deny-clause-looks : goal.returns-in-Deny-clause-looks
returns-in-Deny-clause-looks g c =
    looks_then g.B.Standing _ _ _ c.in-Ok.ensures.looks c.in-Ok-count.ensures.looks

pub returns-in-Deny-clause-finds : goal.returns-in-Deny-clause-finds
returns-in-Deny-clause-finds g c honest d st sound octets spelled short judged =
    let b = with_waiting c.args.waits.now d in
    let file = policy_view c.args.policy.now in
    let account = account_asked c.args.requested.account in
    let r = request_view c.args.requested.request in
    let reading : SFits w64 c.args.requested.reading = search rules in
    let clock : c.in-Ok.looked.clock ≡ clock_of c.args.requested.reading b =
    ap (λ l. l.clock) (c.in-Ok.ensures.value (c.in-Ok-count.ensures.looks.honest honest) d st sound)
    ∙ ap (λ x. clock_of x b) (to_z-of_z reading) in
    let same = facts_are file account c.args.requested.reading b c.in-Ok.looked.clock
    c.in-Ok-count.count c.in-Good.gen_time clock c.in-Good.ensures.state
    (c.in-Ok-count.ensures.value honest d (c.in-Ok.ensures.looks.stands d st) sound) in (
      first_lifted file account c.args.requested.reading octets b r _ same spelled
          (λ s h. c.requests_have_one_reading.ensures.one octets r s spelled h) short c.in-Deny.rule
          c.in-Deny.ensures.verdict,
      answered_for file account r _ c.in-Deny.rule c.in-Deny.ensures.verdict,
    )

pub returns-in-Allow-clause-looks : goal.returns-in-Allow-clause-looks
returns-in-Allow-clause-looks g c =
    looks_then g.B.Standing _ _ _ c.in-Ok.ensures.looks c.in-Ok-count.ensures.looks

pub returns-in-Allow-clause-finds : goal.returns-in-Allow-clause-finds
returns-in-Allow-clause-finds g c honest d st sound octets spelled short judged =
    let b = with_waiting c.args.waits.now d in
    let file = policy_view c.args.policy.now in
    let account = account_asked c.args.requested.account in
    let r = request_view c.args.requested.request in
    let reading : SFits w64 c.args.requested.reading = search rules in
    let clock : c.in-Ok.looked.clock ≡ clock_of c.args.requested.reading b =
    ap (λ l. l.clock) (c.in-Ok.ensures.value (c.in-Ok-count.ensures.looks.honest honest) d st sound)
    ∙ ap (λ x. clock_of x b) (to_z-of_z reading) in
    let same = facts_are file account c.args.requested.reading b c.in-Ok.looked.clock
    c.in-Ok-count.count c.in-Good.gen_time clock c.in-Good.ensures.state
    (c.in-Ok-count.ensures.value honest d (c.in-Ok.ensures.looks.stands d st) sound) in
    let verdict = c.in-Allow.ensures.verdict in (
      record {
        holds = all_lifted file account c.args.requested.reading octets b r _ same spelled
            (λ s h. c.requests_have_one_reading.ensures.one octets r s spelled h) short verdict.0;
        spelled = spelled;
        policy = verdict.1.policy;
        good = subst (λ x. IsGoodAt file.counter x.clock c.in-Allow.plan.gen_time) same verdict.1.good;
      },
      refl,
      refl,
    )

pub returns-in-Deny-clause-late : goal.returns-in-Deny-clause-late
returns-in-Deny-clause-late g c one =
    late_with (policy_view c.args.policy.now) (account_asked c.args.requested.account)
    (request_view c.args.requested.request) _ c.in-Deny.rule one c.in-Deny.ensures.verdict
