-- The first failing rule, from what each rule was found to be.
use Rattle.std.proofs.Common.{◌≡◌, ℕ, ◌<◌, ◌+◌, ◌-◌, Bool, true, false, List, [], ◌∷◌, get_or, ltb, Option, Some}
use Rattle.std.proofs.Common.{None, refl, sym, ap, ◌∙◌, subst, arith}
use Rattle.std.proofs.lemmas.{Bool.Decides.Decides-ltb, Option.same_Some}
use Rattle.policy.specs.Record.{AccountValue, PolicyValue}
use Rattle.tsp.specs.{Request.RequestValue, Rejection.number_of, Rules.IsFirstFailing, declared.rule.Rule.Rule}
use Rattle.tsp.specs.declared.rule.Rule.TheVariants.{Spelling, Version, Account, Algorithm, HashLength, Policy}
use Rattle.tsp.specs.declared.rule.Rule.TheVariants.{PolicyAlgorithm, Extensions, Certificate, Clock, Quota, System}
use Rattle.decide.{specs.Clock.IsGood, specs.declared.facts.Facts.Facts, proofs.Clocks.one_gen_time}
use Rattle.decide.specs.Rules.{HoldsOf, Holds, IsWithinQuota, policy_asked}
use Rattle.decide.specs.Verdict.{PlanValue, VerdictValue, Allowed, Denied, IsJudged, IsVerdict}

abbrev rule_at : ℕ → Rule
rule_at n =
    get_or (Spelling ∷ Version ∷ Account ∷ Algorithm ∷ HashLength ∷ Policy ∷ PolicyAlgorithm ∷ Extensions ∷ Certificate
    ∷ Clock ∷ Quota ∷ System ∷ [])
    (n - 1) System

rule_at_number : (rule : Rule) → rule_at (number_of rule) ≡ rule
rule_at_number Spelling = refl
rule_at_number Version = refl
rule_at_number Account = refl
rule_at_number Algorithm = refl
rule_at_number HashLength = refl
rule_at_number Policy = refl
rule_at_number PolicyAlgorithm = refl
rule_at_number Extensions = refl
rule_at_number Certificate = refl
rule_at_number Clock = refl
rule_at_number Quota = refl
rule_at_number System = refl

same_rule : (one other : Rule) → number_of one ≡ number_of other → one ≡ other
same_rule one other e = sym (rule_at_number one) ∙ ap rule_at e ∙ rule_at_number other

number_small : (rule : Rule) → number_of rule < 13
number_small Spelling = omega arith
number_small rule = omega arith

-- each rule with a number below this one holds
abbrev pub HoldsBelow : (Rule → Type 0) → ℕ → Type 0
HoldsBelow P n = (rule : Rule) → number_of rule < n → P rule

pub below_first : (P : Rule → Type 0) → HoldsBelow P 1
below_first P Spelling l = absurd (omega arith)
below_first P rule l = absurd (omega arith)

next_at : (P : Rule → Type 0) (rule : Rule) → HoldsBelow P (number_of rule) → P rule → (other : Rule)
    → number_of other < number_of rule + 1
    → (b : Bool) → ltb (number_of other) (number_of rule) ≡ b → P other
next_at P rule below h other l true e = below other ((Decides-ltb (number_of other) (number_of rule)).0 e)
next_at P rule below h other l false e =
    let not_below : number_of other < number_of rule
    → ⊥ = λ k. let t = (Decides-ltb (number_of other) (number_of rule)).1 k in cc in
    let same : number_of rule ≡ number_of other = omega (arith, not_below) in
    subst P (same_rule rule other same) h

pub below_next : (P : Rule → Type 0) (rule : Rule) → HoldsBelow P (number_of rule) → P rule
    → HoldsBelow P (number_of rule + 1)
below_next P rule below h other l = next_at P rule below h other l (ltb (number_of other) (number_of rule)) refl

pub all_below : (P : Rule → Type 0) → HoldsBelow P 13 → (rule : Rule) → P rule
all_below P below rule = below rule (number_small rule)

-- of one policy file, account and request
module _ (file : PolicyValue) (account : Option AccountValue) (r : RequestValue) where
  -- what fails is judged without the facts
  judged_small : (rule : Rule) → (HoldsOf file account r rule → ⊥) → number_of rule < 10
  judged_small Spelling f = absurd (f tt)
  judged_small Clock f = absurd (f tt)
  judged_small Quota f = absurd (f tt)
  judged_small System f = absurd (f tt)
  judged_small rule f = omega arith

  lift : (facts : Facts) (rule : Rule) → number_of rule < 10 → HoldsOf file account r rule
      → Holds file account r facts rule
  lift facts Clock l h = absurd (omega arith)
  lift facts Quota l h = absurd (omega arith)
  lift facts rule l h = h

  lower : (facts : Facts) (rule : Rule) → Holds file account r facts rule → HoldsOf file account r rule
  lower facts Clock h = tt
  lower facts Quota h = tt
  lower facts rule h = h

  pub first_lifted : (facts : Facts) (rule : Rule) → IsFirstFailing (HoldsOf file account r) rule
      → IsFirstFailing (Holds file account r facts) rule
  first_lifted facts rule first =
      let small = judged_small rule first.fails in
      record {
        fails = λ h. first.fails (lower facts rule h);
        before = λ earlier l. lift facts earlier (omega (arith, small, l)) (first.before earlier l);
      }

  module _ (facts : Facts) (h : (rule : Rule) → HoldsOf file account r rule) where
    -- the rules before the clock's hold
    judged_below : HoldsBelow (Holds file account r facts) 10
    judged_below rule l = lift facts rule l (h rule)

    pub clock_fails : (IsGood file.counter facts.clock → ⊥) → IsFirstFailing (Holds file account r facts) Clock
    clock_fails bad = record { fails = bad; before = judged_below }

    pub quota_fails : IsGood file.counter facts.clock → (IsWithinQuota account facts.count → ⊥)
        → IsFirstFailing (Holds file account r facts) Quota
    quota_fails good over =
        record { fails = over; before = below_next (Holds file account r facts) Clock judged_below good }

    pub all_hold : IsGood file.counter facts.clock → IsWithinQuota account facts.count → (rule : Rule)
        → Holds file account r facts rule
    all_hold good within Clock = good
    all_hold good within Quota = within
    all_hold good within rule = h rule

  -- the rules one after the other, as they are judged
  pub after_version : HoldsOf file account r Version → HoldsBelow (HoldsOf file account r) 3
  after_version version =
      let H = HoldsOf file account r in below_next H Version (below_next H Spelling (below_first H) tt) version

  pub after_length : HoldsOf file account r Version → HoldsOf file account r Account → HoldsOf file account r Algorithm
      → HoldsOf file account r HashLength → HoldsBelow (HoldsOf file account r) 6
  after_length version known algorithm hash =
      let H = HoldsOf file account r in
      below_next H HashLength
      (below_next H Algorithm (below_next H Account (after_version version) known) algorithm) hash

  -- ..those that speak of the policy that is asked for
  module _ (oid : List ℕ) (asked : policy_asked file account r ≡ Some oid) (rule : Rule)
      (P : Option (List ℕ) → Type 0) (below : HoldsBelow (HoldsOf file account r) (number_of rule)) where
    pub holds_of_asked : (P (policy_asked file account r) → HoldsOf file account r rule) → P (Some oid)
        → HoldsBelow (HoldsOf file account r) (number_of rule + 1)
    holds_of_asked is h = below_next (HoldsOf file account r) rule below (is (subst P (sym asked) h))

    pub fails_of_asked : (HoldsOf file account r rule → P (policy_asked file account r)) → (P (Some oid) → ⊥)
        → IsFirstFailing (HoldsOf file account r) rule
    fails_of_asked is f = record { fails = λ h. f (subst P asked (is h)); before = below }

  pub judged_all : HoldsBelow (HoldsOf file account r) 10 → (rule : Rule) → HoldsOf file account r rule
  judged_all below =
      let H = HoldsOf file account r in
      all_below H (below_next H System (below_next H Quota (below_next H Clock below tt) tt) tt)

first_at : (P : Rule → Type 0) (one other : Rule) → IsFirstFailing P one → IsFirstFailing P other
    → (below above : Bool) → ltb (number_of one) (number_of other) ≡ below
    → ltb (number_of other) (number_of one) ≡ above → one ≡ other
first_at P one other first second true above b a =
    absurd (first.fails (second.before one ((Decides-ltb (number_of one) (number_of other)).0 b)))
first_at P one other first second false true b a =
    absurd (second.fails (first.before other ((Decides-ltb (number_of other) (number_of one)).0 a)))
first_at P one other first second false false b a =
    let not_below : number_of one < number_of other
    → ⊥ = λ k. let t = (Decides-ltb (number_of one) (number_of other)).1 k in cc in
    let not_above : number_of other < number_of one
    → ⊥ = λ k. let t = (Decides-ltb (number_of other) (number_of one)).1 k in cc in
    same_rule one other (omega (arith, not_below, not_above))

-- there is one first rule that fails
pub one_first : (P : Rule → Type 0) (one other : Rule) → IsFirstFailing P one → IsFirstFailing P other → one ≡ other
one_first P one other first second = first_at P one other first second _ _ refl refl

abbrev plan_of : List ℕ → ℕ → Bool → PlanValue
plan_of policy gen_time certificate = record { policy = policy; gen_time = gen_time; certificate = certificate }

same_plan : (p q : PlanValue) → p.policy ≡ q.policy → p.gen_time ≡ q.gen_time → p.certificate ≡ q.certificate → p ≡ q
same_plan p q policy gen_time certificate =
    ap (λ x. plan_of x p.gen_time p.certificate) policy ∙ ap (λ x. plan_of q.policy x p.certificate) gen_time
    ∙ ap (λ x. plan_of q.policy q.gen_time x) certificate

module _ (file : PolicyValue) (account : Option AccountValue) (r : RequestValue) where
  -- there is one verdict
  pub one_verdict : (facts : Facts) (one other : VerdictValue) → IsVerdict file account r facts one
      → IsVerdict file account r facts other → one ≡ other
  one_verdict facts (Allowed p) (Allowed q) v w =
      ap Allowed (same_plan p q (same_Some _ _ (sym v.1.policy ∙ w.1.policy))
      (one_gen_time file.counter facts.clock p.gen_time q.gen_time v.1.good w.1.good)
      (v.1.certificate ∙ sym w.1.certificate))
  one_verdict facts (Allowed p) (Denied rule) v w = absurd (w.fails (v.0 rule))
  one_verdict facts (Denied rule) (Allowed q) v w = absurd (v.fails (w.0 rule))
  one_verdict facts (Denied one) (Denied other) v w = ap Denied (one_first (Holds file account r facts) one other v w)

  -- there is one judgement
  pub one_judged : (one other : Option Rule) → IsJudged file account r one → IsJudged file account r other
      → one ≡ other
  one_judged None None v w = refl
  one_judged None (Some rule) v w = absurd (w.fails (v rule))
  one_judged (Some rule) None v w = absurd (v.fails (w rule))
  one_judged (Some one) (Some other) v w = ap Some (one_first (HoldsOf file account r) one other v w)

-- what a test that failed would have told
pub refuted : {P : Type 0} (answer : Bool) → (P → answer ≡ true) → answer ≡ false → P → ⊥
refuted answer tells off h = let bad : true ≡ false = sym (tells h) ∙ off in cc bad
