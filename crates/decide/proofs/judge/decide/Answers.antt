use Rattle.std.proofs.Common.{option_map}
use Rattle.policy.specs.View.{policy_view, account_view}
use Rattle.tsp.specs.View.{request_view}
use Rattle.decide.proofs.Judgement.{clock_fails, quota_fails, all_hold, refuted}
use Rattle.decide.proofs.judge.decide.Goals as goal

pub returns-in_default-clause-verdict : goal.returns-in_default-clause-verdict
returns-in_default-clause-verdict c =
    let file = policy_view c.args.policy.now in
    let account = option_map (λ a. account_view a.now) c.args.account in
    let r = request_view c.args.request.now in
    let facts = c.args.facts.now in
    let judged = c.in-Ok.ensures in
    clock_fails file account r facts judged.0 c.in_default.ensures.state

pub returns-then-not-is_within_quota-clause-verdict : goal.returns-then-not-is_within_quota-clause-verdict
returns-then-not-is_within_quota-clause-verdict c =
    let file = policy_view c.args.policy.now in
    let account = option_map (λ a. account_view a.now) c.args.account in
    let r = request_view c.args.request.now in
    let facts = c.args.facts.now in
    let judged = c.in-Ok.ensures in
    quota_fails file account r facts judged.0 c.in-Good.ensures.state.0
    (refuted c.is_within_quota.result c.is_within_quota.ensures.1 c.if-not-is_within_quota.true)

pub returns-clause-verdict : goal.returns-clause-verdict
returns-clause-verdict c =
    let file = policy_view c.args.policy.now in
    let account = option_map (λ a. account_view a.now) c.args.account in
    let r = request_view c.args.request.now in
    let facts = c.args.facts.now in
    let judged = c.in-Ok.ensures in (
      all_hold file account r facts judged.0 c.in-Good.ensures.state.0
          (c.is_within_quota.ensures.0 c.if-not-is_within_quota.false),
      record { policy = judged.1; good = c.in-Good.ensures.state; certificate = c.cert_req.ensures },
    )

pub returns-clause-interval : goal.returns-clause-interval
returns-clause-interval c =
    c.clock_state.ensures.interval c.in-Good.gen_time c.in-Good.is
