-- The decision on a request: the plan of the stamp, or the first rule that fails.
use Rattle.std.specs.Prelude.{◌≡◌, ℕ, List, Bool, Option, Some, None}
use Rattle.policy.specs.Record.{AccountValue, PolicyValue}
use Rattle.tsp.specs.{Request.RequestValue, Rules.IsFirstFailing, declared.rule.Rule.Rule}
use Rattle.decide.specs.{Clock.IsGoodAt, Clock.KeepsAccuracy, declared.facts.Facts.Facts}
use Rattle.decide.specs.Rules.{HoldsOf, Holds, policy_asked}

-- what a stamp will say besides what its request says: the policy's object identifier, the genTime, and whether its
-- token comes with the certificate
pub record PlanValue : Type 0 where
  pub policy : List ℕ
  pub gen_time : ℕ
  pub certificate : Bool

pub data VerdictValue : Type 0 where
  Allowed : (plan : PlanValue) → VerdictValue
  Denied : (rule : Rule) → VerdictValue

-- what is judged of a request without the facts: each rule holds, or this one is the first that fails
abbrev pub IsJudged : PolicyValue → Option AccountValue → RequestValue → Option Rule → Type 0
IsJudged file account r None = (rule : Rule) → HoldsOf file account r rule
IsJudged file account r (Some rule) = IsFirstFailing (HoldsOf file account r) rule

-- the plan of a stamp: the policy that is asked for, the genTime, and the certificate where the request wants it
pub record IsPlan (file : PolicyValue) (account : Option AccountValue) (r : RequestValue) (facts : Facts)
    (plan : PlanValue) : Type 0 where
  pub policy : policy_asked file account r ≡ Some plan.policy
  pub good : IsGoodAt file.counter facts.clock plan.gen_time
  pub certificate : plan.certificate ≡ r.cert_req

-- Each rule holds, and the plan is the stamp's; or the rule is the first that fails.
abbrev pub IsVerdict : PolicyValue → Option AccountValue → RequestValue → Facts → VerdictValue → Type 0
IsVerdict file account r facts (Allowed plan) =
    ((rule : Rule) → Holds file account r facts rule) × IsPlan file account r facts plan
IsVerdict file account r facts (Denied rule) = IsFirstFailing (Holds file account r facts) rule

-- where a stamp is allowed, its genTime is within the accuracy of each moment that may be the true one
abbrev pub AllowsAccurately : PolicyValue → Facts → VerdictValue → Type 0
AllowsAccurately file facts (Allowed plan) = KeepsAccuracy file.counter facts.clock plan.gen_time
AllowsAccurately file facts (Denied rule) = Unit {0}
