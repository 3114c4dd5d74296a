use Rattle.std.proofs.Common.{refl, ap}
use Rattle.policy.specs.View.{policy_view}
use Rattle.tsp.specs.View.{request_view}
use Rattle.decide.specs.View.{account_asked}
use Rattle.desk.specs.{Facts.facts_of, Findings.HoldsUnasked, WaitingStamps.with_waiting}
use Rattle.desk.specs.declared.refusal.StampRefusal.TheVariants as refusal
use Rattle.desk.proofs.stamps.Judgement.{unasked_first, unasked_lifted, first_lifted, answered_for}
use Rattle.desk.proofs.journeys.Headline.{one_first}
use Rattle.desk.proofs.findings.judge.Goals as goal

pub returns-in-Some-clause-finds : goal.returns-in-Some-clause-finds
returns-in-Some-clause-finds g c honest d st sound octets spelled short =
    let b = with_waiting c.args.waits.now d in
    let file = policy_view c.args.policy.now in
    let account = account_asked c.args.requested.account in
    let r = request_view c.args.requested.request in
    let facts = facts_of file account c.args.requested.reading b in
    let first = c.verdicts_are_one.ensures.judged file account r facts c.in-Some.rule c.in-Some.ensures.first in (
      first_lifted file account c.args.requested.reading octets b r facts refl spelled
          (λ s h. c.requests_have_one_reading.ensures.one octets r s spelled h) short c.in-Some.rule first,
      answered_for file account r facts c.in-Some.rule first,
    )

pub returns-in-Some-clause-unasked : goal.returns-in-Some-clause-unasked
returns-in-Some-clause-unasked g c octets spelled short rule first =
    let file = policy_view c.args.policy.now in
    let account = account_asked c.args.requested.account in
    let r = request_view c.args.requested.request in (
      ap refusal.Fails (one_first (HoldsUnasked file account octets) c.in-Some.rule rule
          (unasked_first file account octets r spelled
          (λ s h. c.requests_have_one_reading.ensures.one octets r s spelled h) short c.in-Some.rule
          c.in-Some.ensures.first) first),
      refl,
    )

pub returns-in-None-clause-unasked : goal.returns-in-None-clause-unasked
returns-in-None-clause-unasked g c octets spelled short rule first =
    let file = policy_view c.args.policy.now in
    let account = account_asked c.args.requested.account in
    let r = request_view c.args.requested.request in
    absurd (first.fails (unasked_lifted file account octets r spelled
    (λ s h. c.requests_have_one_reading.ensures.one octets r s spelled h) short c.in-None.ensures.first rule))
