-- What is found of a request before anything is reserved: the first rule that fails, a call that wasn't answered, or
-- the stamp's plan.
use Rattle.std.specs.Prelude.{◌≡◌, ℕ, ℤ, ◌⊎◌, List, Option, Some}
use Rattle.policy.specs.Record.{AccountValue, PolicyValue}
use Rattle.tsp.specs.Rules.{HoldsOfOctets, IsFirstFailing}
use Rattle.tsp.specs.declared.rule.Rule.TheVariants.{Spelling, Version, Account, Algorithm, HashLength, Policy}
use Rattle.tsp.specs.declared.rule.Rule.TheVariants.{PolicyAlgorithm, Extensions, Certificate, Clock, Quota, System}
use Rattle.tsp.specs.{Request.RequestValue, Request.Spells, declared.rule.Rule.Rule}
use Rattle.decide.specs.{Clock.IsGood, Clock.IsGoodAt, Rules.Holds, Rules.HoldsOf, Rules.policy_asked}
use Rattle.book.specs.History.{History}
use Rattle.desk.specs.{Facts.facts_of, Outcome.Fine, Outcome.Cause, Outcome.cause_of, Outcome.Outcome}

-- the rules 1 to 9, which ask the store nothing
abbrev pub HoldsUnasked : PolicyValue → Option AccountValue → List ℕ → Rule → Type 0
HoldsUnasked file account octets rule = HoldsOfOctets (HoldsOf file account) octets rule

-- the rules 1 to 11
abbrev pub HoldsAt : PolicyValue → Option AccountValue → ℤ → List ℕ → History → Rule → Type 0
HoldsAt file account reading octets b rule = HoldsOfOctets (λ r. Holds file account r
    (facts_of file account reading b)) octets rule

-- what a stamp will say besides its serial number
pub record StampPlan : Type 0 where
  pub request : RequestValue
  -- the policy's object identifier, by subidentifiers
  pub policy : List ℕ
  pub gen_time : ℕ

-- no rule fails, and this is the plan
pub record IsAllowed (file : PolicyValue) (account : Option AccountValue) (reading : ℤ) (octets : List ℕ)
    (b : History) (plan : StampPlan) : Type 0 where
  pub holds : (rule : Rule) → HoldsAt file account reading octets b rule
  pub spelled : Spells octets plan.request
  pub policy : policy_asked file account plan.request ≡ Some plan.policy
  pub good : IsGoodAt file.counter (facts_of file account reading b).clock plan.gen_time

-- the calls that a rule's judging needs were answered
abbrev pub IsAnsweredFor : Outcome → Rule → Type 0
IsAnsweredFor o Spelling = Unit {0}
IsAnsweredFor o Version = Unit {0}
IsAnsweredFor o Account = Unit {0}
IsAnsweredFor o Algorithm = Unit {0}
IsAnsweredFor o HashLength = Unit {0}
IsAnsweredFor o Policy = Unit {0}
IsAnsweredFor o PolicyAlgorithm = Unit {0}
IsAnsweredFor o Extensions = Unit {0}
IsAnsweredFor o Certificate = Unit {0}
IsAnsweredFor o Clock = o.looking ≡ Fine
IsAnsweredFor o Quota = (o.looking ≡ Fine) × (o.counting ≡ Fine)
IsAnsweredFor o System = ⊥

-- rule 10 or 11 couldn't be judged: a call that it needs had no answer, and no earlier rule fails
abbrev pub IsUnjudged : PolicyValue → Option AccountValue → ℤ → Outcome → History → Cause → Type 0
IsUnjudged file account reading o b cause =
    (cause_of o.looking ≡ Some cause)
    ⊎ ((o.looking ≡ Fine) × IsGood file.counter (facts_of file account reading b).clock × (cause_of o.counting
    ≡ Some cause))

pub data Finding : Type 0 where
  Fails : Rule → Finding
  Unanswered : Cause → Finding
  Allowed : StampPlan → Finding

abbrev pub Finds : PolicyValue → Option AccountValue → ℤ → List ℕ → Outcome → History → Finding → Type 0
Finds file account reading octets o b (Fails rule) = IsFirstFailing (HoldsAt file account reading octets b) rule
    × IsAnsweredFor o rule
Finds file account reading octets o b (Unanswered cause) =
    ((rule : Rule) → HoldsUnasked file account octets rule) × IsUnjudged file account reading o b cause
Finds file account reading octets o b (Allowed plan) =
    IsAllowed file account reading octets b plan × (o.looking ≡ Fine) × (o.counting ≡ Fine)
