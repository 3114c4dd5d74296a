-- A command has one effect on a history under an outcome.
use Rattle.std.proofs.Common.{◌≡◌, ℕ, nat_le, ℤ, pos, Bool, true, false, List, length, Option, Some, None, sym}
use Rattle.std.proofs.Common.{◌∙◌, ap, inl, inr}
use Rattle.policy.specs.Record.{AccountValue, PolicyValue, CounterValue}
use Rattle.tsp.specs.declared.rule.Rule.TheVariants.{Spelling, Version, Account, Algorithm, HashLength, Policy}
use Rattle.tsp.specs.declared.rule.Rule.TheVariants.{PolicyAlgorithm, Extensions, Certificate, Clock, Quota, System}
use Rattle.tsp.specs.{Request.RequestValue, Rules.IsFirstFailing, declared.rule.Rule.Rule}
use Rattle.decide.specs.Clock.{IsGood, IsGoodAt, gen_time, now_at}
use Rattle.decide.specs.{Rules.policy_asked, declared.facts.ClockFacts.ClockFacts}
use Rattle.book.specs.{History.History, History.deposit_under, Rows.DepositRow}
use Rattle.desk.specs.Outcome.{Outcome, Cause, Fine, cause_of}
use Rattle.desk.specs.Findings.{StampPlan, IsAllowed, Finding, Fails, Unanswered, Allowed, Finds, HoldsAt, HoldsUnasked}
use Rattle.desk.specs.Command.{Setting, Command, Stamp, Begin, Finish, Abandon, Deposit, Show, Token, ListAll, Grant}
use Rattle.desk.specs.Command.{Revoke, Calibrate, Hold, Succeed}
use Rattle.desk.specs.Effects.{Effect, stamp_found, begin_found, deposit_found, name_of}
use Rattle.desk.specs.MachineStep.{KeepsByReference, KeepsOnceSearched, KeepsWithinSize, HasEffect}
use Rattle.desk.specs.{Findings.IsUnjudged, Findings.IsAnsweredFor, Facts.facts_of, Texts.octets_for}
use Rattle.desk.proofs.{journeys.Headline.one_first, journeys.Sound.TextLaws}

-- where a rule is found to fail, its judging lacked no answer
judged : (file : PolicyValue) (account : Option AccountValue) (reading : ℤ) (octets : List ℕ) (o : Outcome)
    (b : History) (rule : Rule) (cause : Cause) → IsFirstFailing (HoldsAt file account reading octets b) rule
    → IsAnsweredFor o rule → ((other : Rule) → HoldsUnasked file account octets other)
    → IsUnjudged file account reading o b cause → ⊥
judged file account reading octets o b Spelling cause first answered holds unjudged = first.fails (holds Spelling)
judged file account reading octets o b Version cause first answered holds unjudged = first.fails (holds Version)
judged file account reading octets o b Account cause first answered holds unjudged = first.fails (holds Account)
judged file account reading octets o b Algorithm cause first answered holds unjudged = first.fails (holds Algorithm)
judged file account reading octets o b HashLength cause first answered holds unjudged = first.fails (holds HashLength)
judged file account reading octets o b Policy cause first answered holds unjudged = first.fails (holds Policy)
judged file account reading octets o b PolicyAlgorithm cause first answered holds unjudged =
    first.fails (holds PolicyAlgorithm)
judged file account reading octets o b Extensions cause first answered holds unjudged = first.fails (holds Extensions)
judged file account reading octets o b Certificate cause first answered holds unjudged = first.fails (holds Certificate)
judged file account reading octets o b Clock cause first answered holds (inl looked) =
    let none : cause_of o.looking ≡ None = ap cause_of answered in cc
judged file account reading octets o b Clock cause first answered holds (inr counted) =
    first.fails (λ r spelled. counted.1)
judged file account reading octets o b Quota cause first answered holds (inl looked) =
    let none : cause_of o.looking ≡ None = ap cause_of answered.0 in cc
judged file account reading octets o b Quota cause first answered holds (inr counted) =
    let none : cause_of o.counting ≡ None = ap cause_of answered.1 in
    let some = counted.2 in
    cc
judged file account reading octets o b System cause first answered holds unjudged = answered

one_cause : (file : PolicyValue) (account : Option AccountValue) (reading : ℤ) (o : Outcome) (b : History)
    (one other : Cause) → IsUnjudged file account reading o b one → IsUnjudged file account reading o b other
    → one ≡ other
one_cause file account reading o b one other (inl h) (inl k) = cc
one_cause file account reading o b one other (inl h) (inr k) =
    let none : cause_of o.looking ≡ None = ap cause_of k.0 in cc
one_cause file account reading o b one other (inr h) (inl k) =
    let none : cause_of o.looking ≡ None = ap cause_of h.0 in cc
one_cause file account reading o b one other (inr h) (inr k) =
    let x = h.2 in
    let y = k.2 in
    cc

answered_all : (file : PolicyValue) (account : Option AccountValue) (reading : ℤ) (o : Outcome) (b : History)
    (cause : Cause) → IsUnjudged file account reading o b cause → o.looking ≡ Fine → o.counting ≡ Fine → ⊥
answered_all file account reading o b cause (inl h) looked counted =
    let none : cause_of o.looking ≡ None = ap cause_of looked in cc
answered_all file account reading o b cause (inr h) looked counted =
    let none : cause_of o.counting ≡ None = ap cause_of counted in
    let some = h.2 in
    cc

-- one genTime is good
one_now : (counter : CounterValue) (facts : ClockFacts) (one other : IsGood counter facts) → one.now ≡ other.now
one_now counter facts one other =
    let same : Some one.calibration ≡ Some other.calibration = sym one.calibrated ∙ other.calibrated in
    let calibration : one.calibration ≡ other.calibration = cc in
    let now : pos one.now ≡ pos other.now =
    sym one.stated ∙ (ap (now_at facts.reading) calibration ∙ other.stated) in
    cc

one_moment : (counter : CounterValue) (facts : ClockFacts) (m n : ℕ) → IsGoodAt counter facts m
    → IsGoodAt counter facts n → m ≡ n
one_moment counter facts m n h k = h.1 ∙ (ap (gen_time counter) (one_now counter facts h.0 k.0) ∙ sym k.1)

abbrev planned : RequestValue → List ℕ → ℕ → StampPlan
planned request policy gen_time = record { request = request; policy = policy; gen_time = gen_time }

one_plan : TextLaws → (file : PolicyValue) (account : Option AccountValue) (reading : ℤ) (octets : List ℕ)
    (b : History) (one other : StampPlan) → IsAllowed file account reading octets b one
    → IsAllowed file account reading octets b other → one ≡ other
one_plan laws file account reading octets b one other h k =
    let request = laws.one_request octets one.request other.request h.spelled k.spelled in
    let asked : Some one.policy ≡ Some other.policy =
    sym h.policy ∙ (ap (policy_asked file account) request ∙ k.policy) in
    let policy : one.policy ≡ other.policy = cc in
    let moment = one_moment file.counter (facts_of file account reading b).clock one.gen_time other.gen_time h.good
    k.good in
    ap (λ r. planned r one.policy one.gen_time) request
    ∙ (ap (λ p. planned other.request p one.gen_time) policy ∙ ap (planned other.request other.policy) moment)

-- one thing is found
one_finding : TextLaws → (file : PolicyValue) (account : Option AccountValue) (reading : ℤ) (octets : List ℕ)
    (o : Outcome) (b : History) (f g : Finding) → Finds file account reading octets o b f
    → Finds file account reading octets o b g → f ≡ g
one_finding laws file account reading octets o b (Fails rule) (Fails other) h k =
    ap Fails (one_first (HoldsAt file account reading octets b) rule other h.0 k.0)
one_finding laws file account reading octets o b (Fails rule) (Unanswered cause) h k =
    absurd (judged file account reading octets o b rule cause h.0 h.1 k.0 k.1)
one_finding laws file account reading octets o b (Fails rule) (Allowed plan) h k =
    absurd (h.0.fails (k.0.holds rule))
one_finding laws file account reading octets o b (Unanswered cause) (Fails rule) h k =
    absurd (judged file account reading octets o b rule cause k.0 k.1 h.0 h.1)
one_finding laws file account reading octets o b (Unanswered cause) (Unanswered other) h k =
    ap Unanswered (one_cause file account reading o b cause other h.1 k.1)
one_finding laws file account reading octets o b (Unanswered cause) (Allowed plan) h k =
    absurd (answered_all file account reading o b cause h.1 k.1 k.2)
one_finding laws file account reading octets o b (Allowed plan) (Fails rule) h k =
    absurd (k.0.fails (h.0.holds rule))
one_finding laws file account reading octets o b (Allowed plan) (Unanswered cause) h k =
    absurd (answered_all file account reading o b cause k.1 h.1 h.2)
one_finding laws file account reading octets o b (Allowed plan) (Allowed other) h k =
    ap Allowed (one_plan laws file account reading octets b plan other h.0 k.0)

one_under : TextLaws → (s : Setting) (a : AccountValue) (reading : ℤ) (reference bytes : List ℕ) (o : Outcome)
    (b : History) (under : Option DepositRow) (e d : Effect) → KeepsByReference s a reading reference bytes o b under e
    → KeepsByReference s a reading reference bytes o b under d → e ≡ d
one_under laws s a reading reference bytes o b (Some x) e d h k = h ∙ sym k
one_under laws s a reading reference bytes o b None e d h k =
    let octets = octets_for s.file a bytes in
    h.1.2
    ∙ (ap (deposit_found s a.name reference bytes octets o b)
    (one_finding laws s.file (Some a) reading octets o b h.1.0 k.1.0 h.1.1 k.1.1) ∙ sym k.1.2)

one_unless : TextLaws → (s : Setting) (a : AccountValue) (reading : ℤ) (reference bytes : List ℕ) (o : Outcome)
    (b : History) (refused : Option Cause) (e d : Effect) → KeepsOnceSearched s a reading reference bytes o b refused e
    → KeepsOnceSearched s a reading reference bytes o b refused d → e ≡ d
one_unless laws s a reading reference bytes o b (Some cause) e d h k = h ∙ sym k
one_unless laws s a reading reference bytes o b None e d h k =
    one_under laws s a reading reference bytes o b (deposit_under a.name reference b) e d h k

one_keeps : TextLaws → (s : Setting) (a : AccountValue) (reading : ℤ) (reference bytes : List ℕ) (o : Outcome)
    (b : History) (short : Bool) (e d : Effect) → KeepsWithinSize s a reading reference bytes o b short e
    → KeepsWithinSize s a reading reference bytes o b short d → e ≡ d
one_keeps laws s a reading reference bytes o b true e d h k =
    one_unless laws s a reading reference bytes o b (cause_of o.searching) e d h k
one_keeps laws s a reading reference bytes o b false e d h k = h ∙ sym k

pub one_effect : TextLaws → (s : Setting) (c : Command) (o : Outcome) (b : History) (e d : Effect)
    → HasEffect s c o b e → HasEffect s c o b d → e ≡ d
one_effect laws s (Stamp account reading octets) o b e d h k =
    h.2
    ∙ (ap (stamp_found s (name_of account) octets o b)
    (one_finding laws s.file account reading octets o b h.0 k.0 h.1 k.1) ∙ sym k.2)
one_effect laws s (Begin account reading octets) o b e d h k =
    h.2
    ∙ (ap (begin_found s (name_of account) octets o b)
    (one_finding laws s.file account reading octets o b h.0 k.0 h.1 k.1) ∙ sym k.2)
one_effect laws s (Finish p signature) o b e d h k = h ∙ sym k
one_effect laws s (Abandon p) o b e d h k = h ∙ sym k
one_effect laws s (Deposit a reading reference bytes) o b e d h k =
    one_keeps laws s a reading reference bytes o b (nat_le (length bytes) 1_048_576) e d h k
one_effect laws s (Show a n) o b e d h k = h ∙ sym k
one_effect laws s (Token a n) o b e d h k = h ∙ sym k
one_effect laws s (ListAll a) o b e d h k = h ∙ sym k
one_effect laws s (Grant a n reader) o b e d h k = h ∙ sym k
one_effect laws s (Revoke a n reader) o b e d h k = h ∙ sym k
one_effect laws s (Calibrate c) o b e d h k = h ∙ sym k
one_effect laws s (Hold k) o b e d h j = h ∙ sym j
one_effect laws s (Succeed next) o b e d h j = h ∙ sym j
