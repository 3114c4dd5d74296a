-- What a stamp's reply says, from the step that it is.
use Rattle.std.proofs.Common.{◌≡◌, ℕ, ℤ, List, Option, Some, Result, sym, ◌∙◌, subst, inl, inr}
use Rattle.book.specs.{declared.standing.Standing.Ghosts, History.History, Stands.Stands}
use Rattle.policy.specs.Record.{AccountValue}
use Rattle.tsp.specs.{Granted.granted_octets, declared.rule.Rule.Rule}
use Rattle.cms.specs.{SignedData.attribute_text, SignedData.token, declared.signer.SignerFault.SignerFault}
use Rattle.desk.specs.Command.{Setting, Stamp, Answer, Stamped, Rejected}
use Rattle.desk.specs.{Outcome.Outcome, Texts.tst_of, MachineStep.Moves, Laws.IsRejection, Replies.IsGranted}
use Rattle.desk.specs.{Replies.IsRejected, CallContract.DeskValue, CallContract.IsStep, CallContract.with_signer}
use Rattle.desk.proofs.journeys.Headline.{granted_asking, rejected_is}

-- a granted reply
pub granted_reply : {B X : Type 0} (g : Ghosts B) (signs : X → List ℕ → Result (List ℕ) SignerFault → X → Type 0)
    (count : X → ℕ) (before after : X) (account : Option AccountValue) (reading : ℤ) (octets : List ℕ)
    (old new : DeskValue B) (says : Answer)
    → IsStep g (with_signer signs count before after) (Stamp account reading octets) old new says
    → g.honest new.store → (b : History) → Stands g b old.store → (serial : ℕ) (reply : List ℕ) → says ≡ Stamped serial reply
    → IsGranted old.setting (λ text answer. signs before text answer after) account reading octets b serial reply
granted_reply g signs count before after account reading octets old new says step honest b st serial reply is =
    let s = old.setting in
    let done = step.by.step.steps honest b st tt in
    let granted = granted_asking s account reading octets step.outcome b done.effect serial reply done.has
    (sym done.says ∙ is) in
    let grant = granted.0 in
    record {
      plan = grant.plan;
      allowed = grant.allowed;
      number = grant.number;
      signature = grant.signature;
      signed = subst (λ answer. Moves signs (Some (attribute_text s.in_force.identity (tst_of s grant.plan serial)))
          answer before after) grant.signed
          (subst (λ asked. Moves signs asked step.outcome.signing before after) granted.1 done.moves);
      text = subst (λ n. reply ≡ granted_octets (token s.in_force.identity s.in_force.algorithm (tst_of s grant.plan n)
          grant.signature grant.plan.request.cert_req)) (sym grant.number) grant.text;
    }

rejected_by : (s : Setting) (account : Option AccountValue) (reading : ℤ) (octets : List ℕ) (o : Outcome)
    (b : History) (rule : Rule) → IsRejection s account reading octets o b rule
    → IsRejected s account reading octets b rule
rejected_by s account reading octets o b rule (inl first) = inl first
rejected_by s account reading octets o b rule (inr h) = inr (h.0, h.1)

-- a rejection
pub rejected_reply : {B X : Type 0} (g : Ghosts B) (signs : X → List ℕ → Result (List ℕ) SignerFault → X → Type 0)
    (count : X → ℕ) (before after : X) (account : Option AccountValue) (reading : ℤ) (octets : List ℕ)
    (old new : DeskValue B) (says : Answer)
    → IsStep g (with_signer signs count before after) (Stamp account reading octets) old new says
    → g.honest new.store → (b : History) → Stands g b old.store → (rule : Rule) → says ≡ Rejected rule
    → IsRejected old.setting account reading octets b rule
rejected_reply g signs count before after account reading octets old new says step honest b st rule is =
    let done = step.by.step.steps honest b st tt in
    rejected_by old.setting account reading octets step.outcome b rule
    (rejected_is old.setting account reading octets step.outcome b done.effect rule done.has (sym done.says ∙ is))
