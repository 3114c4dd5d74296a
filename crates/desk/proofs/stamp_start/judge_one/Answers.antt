use Rattle.std.proofs.Common.{Err, refl, ap, inl}
use Rattle.policy.specs.View.{policy_view}
use Rattle.tsp.specs.declared.rule.Rule.TheVariants.{Spelling}
use Rattle.decide.specs.{Rules.Holds, Rules.HoldsOf, View.account_asked}
use Rattle.desk.specs.WaitingStamps.{with_waiting}
use Rattle.desk.specs.{Calls.settings_view, Facts.facts_of, Findings.HoldsUnasked, Together.question_view}
use Rattle.desk.specs.declared.refusal.StampRefusal.TheVariants as refusal
use Rattle.desk.proofs.stamps.Judgement.{unread, unspelled}
use Rattle.desk.proofs.{stamps.BatchJudgement.judged_err, journeys.Headline.one_first}
use Rattle.desk.proofs.stamp_start.judge_one.Goals as goal

pub returns-in_default : goal.returns-in_default
returns-in_default g c =
    let file = policy_view c.args.settings.policy.now in
    let account = account_asked c.args.asked.account in
    let octets = c.args.asked.query.now in
    let old = c.args.store.now in
    let fails = unread octets c.in_default.field-0 c.in_default.ensures.refusals
    (λ e. c.in_default.ensures.form (ap Err e)) (λ e. c.in_default.ensures.too_long.0 (ap Err e)) in
    judged_err g.B.Standing (settings_view c.args.settings) (question_view c.args.asked) c.args.waits.now
    (refusal.Fails Spelling) old old (inl tt) tt
    (record { honest = λ h. h; stands = λ b st. st; leaves = λ h left r. r }) refl
    (λ honest b st sound. (
      unspelled (λ r. Holds file account r (facts_of file account c.args.asked.reading
          (with_waiting c.args.waits.now b))) octets fails,
      tt,
    ))
    (λ rule first. (
      ap refusal.Fails (one_first (HoldsUnasked file account octets) Spelling rule
          (unspelled (HoldsOf file account) octets fails) first),
      refl,
    ))
