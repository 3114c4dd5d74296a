-- What a stamp's answer says.
use Rattle.std.proofs.Common.{arith, Contains, ◌≡◌, ℕ, zero, suc, ◌≤◌, ◌+◌, ◌*◌, ◌-◌, ◌<◌, ◌⊎◌, ◌==◌, nat_le}
use Rattle.std.proofs.Common.{if◌then◌else◌, ℤ, Bool, true, false, List, [], ◌∷◌, get_or, Option, Some, None, Result}
use Rattle.std.proofs.Common.{Ok, Err, refl, sym, ◌∙◌, ap, subst, inl, inr}
use Rattle.std.proofs.lemmas.Bool.Decides.{nat_tests}
use Rattle.der.specs.{Node.encoding, Node.length_octets, Number.number_content}
use Rattle.policy.specs.Record.{AccountValue, PolicyValue}
use Rattle.tsp.specs.Rejection.{number_of, rejection}
use Rattle.tsp.specs.declared.rule.Rule.TheVariants.{Spelling, Version, Account, Algorithm, HashLength, Policy}
use Rattle.tsp.specs.declared.rule.Rule.TheVariants.{PolicyAlgorithm, Extensions, Certificate, Clock, Quota, System}
use Rattle.tsp.specs.{Granted.granted_octets, Rules.IsFirstFailing, declared.rule.Rule.Rule}
use Rattle.cms.specs.{SignedData.attribute_text, declared.signer.SignerFault.SignerFault}
use Rattle.cms.specs.declared.signer.SignerFault.TheVariants as signer
use Rattle.book.specs.{History.History, History.ReservationValue, History.greatest_serial, Sound.greatest_number}
use Rattle.desk.specs.Outcome.{Outcome, Cause, OfMemory, OfStore, OfSigner, cause_of, cause_of_signing, first_cause}
use Rattle.desk.specs.Findings.{IsUnjudged, StampPlan, IsAllowed, HoldsAt, HoldsUnasked, Finding, Fails, Unanswered}
use Rattle.desk.specs.Command.{Setting, PendingValue, Stamp, Answer, Stamped, Rejected}
use Rattle.desk.specs.Effects.{Effect, Stamping, Unreserved, Void, Sealing, no_number, no_seal, next_reservation}
use Rattle.desk.specs.Effects.{sealed_or_void, signed_or_void, stamping_of, stamp_effect, stamp_found, name_of}
use Rattle.desk.specs.{Findings.Allowed, Findings.Finds, Texts.pending_of, Texts.token_with, Texts.tst_of}
use Rattle.desk.specs.{MachineStep.HasEffect, Laws.causes_of, Laws.IsUnanswered, Laws.IsGrant, Laws.IsRejection}

-- what is reserved is the next reservation; and what is sealed has the token over the signer's answer
abbrev pub SealedBy : Setting → List ℕ → StampPlan → List ℕ → Outcome → History → Stamping → Type 0
SealedBy s account plan octets o b (Unreserved cause) = Unit {0}
SealedBy s account plan octets o b (Void r cause) = r ≡ next_reservation s account plan octets b
SealedBy s account plan octets o b (Sealing r token) =
    (signature : List ℕ) × (r ≡ next_reservation s account plan octets b)
    × (token ≡ token_with (pending_of s plan (next_reservation s account plan octets b)) signature)
    × (o.signing ≡ Ok signature)

sealed_by : (s : Setting) (account : List ℕ) (plan : StampPlan) (octets : List ℕ) (o : Outcome) (b : History)
    (signature : List ℕ) → o.signing ≡ Ok signature → (refused : Option Cause)
    → SealedBy s account plan octets o b (sealed_or_void (next_reservation s account plan octets b)
    (token_with (pending_of s plan (next_reservation s account plan octets b)) signature) refused)
sealed_by s account plan octets o b signature is None = (signature, refl, refl, is)
sealed_by s account plan octets o b signature is (Some cause) = refl

signed_by : (s : Setting) (account : List ℕ) (plan : StampPlan) (octets : List ℕ) (o : Outcome) (b : History)
    (signing : Result (List ℕ) SignerFault) → o.signing ≡ signing
    → SealedBy s account plan octets o b (signed_or_void (pending_of s plan
    (next_reservation s account plan octets b)) (next_reservation s account plan octets b) signing o)
signed_by s account plan octets o b (Ok signature) is = sealed_by s account plan octets o b signature is (no_seal o)
signed_by s account plan octets o b (Err signer.Failed) is = refl
signed_by s account plan octets o b (Err signer.Memory) is = refl

pub stamping_by : (s : Setting) (account : List ℕ) (plan : StampPlan) (octets : List ℕ) (o : Outcome) (b : History)
    (refused : Option Cause)
    → SealedBy s account plan octets o b (stamping_of s account plan octets o b refused)
stamping_by s account plan octets o b (Some cause) = tt
stamping_by s account plan octets o b None = signed_by s account plan octets o b o.signing refl

-- a grant, and the text that was signed for it
abbrev pub IsGrantAsking : Setting → Option AccountValue → ℤ → List ℕ → Outcome → History → ℕ → List ℕ → Effect → Type 0
IsGrantAsking s account reading octets o b serial reply e =
    (grant : IsGrant s account reading octets o b serial reply)
    × (e.asks ≡ Some (attribute_text s.in_force.identity (tst_of s grant.plan serial)))

granted_from : (s : Setting) (account : Option AccountValue) (reading : ℤ) (octets : List ℕ) (o : Outcome)
    (b : History) (plan : StampPlan) (serial : ℕ) (reply : List ℕ)
    → IsAllowed s.file account reading octets b plan → (st : Stamping)
    → SealedBy s (name_of account) plan octets o b st → (stamp_effect s st).says ≡ Stamped serial reply
    → IsGrantAsking s account reading octets o b serial reply (stamp_effect s st)
granted_from s account reading octets o b plan serial reply allowed (Unreserved cause) by e = cc
granted_from s account reading octets o b plan serial reply allowed (Void r cause) by e = cc
granted_from s account reading octets o b plan serial reply allowed (Sealing r token) by e =
    let number : r.serial ≡ serial = cc in
    let octets_are : granted_octets token ≡ reply = cc in
    let next : serial ≡ greatest_serial b + 1 = sym number ∙ ap (λ x. x.serial) by.1 in (
      record {
        plan = plan;
        allowed = allowed;
        number = next;
        signature = by.0;
        signed = by.3;
        text = sym octets_are ∙ ap granted_octets by.2;
      },
      ap (λ x. Some (attribute_text s.in_force.identity x.tst)) by.1
          ∙ ap (λ n. Some (attribute_text s.in_force.identity (tst_of s plan n))) (sym next),
    )

granted_found : (s : Setting) (account : Option AccountValue) (reading : ℤ) (octets : List ℕ) (o : Outcome)
    (b : History) (serial : ℕ) (reply : List ℕ) (f : Finding)
    → Finds s.file account reading octets o b f → (stamp_found s (name_of account) octets o b f).says
    ≡ Stamped serial reply
    → IsGrantAsking s account reading octets o b serial reply (stamp_found s (name_of account) octets o b f)
granted_found s account reading octets o b serial reply (Fails rule) found e = cc
granted_found s account reading octets o b serial reply (Unanswered cause) found e = cc
granted_found s account reading octets o b serial reply (Allowed plan) found e =
    granted_from s account reading octets o b plan serial reply found.0 (stamping_of s
    (name_of account) plan octets o b (no_number o b))
    (stamping_by s (name_of account) plan octets o b (no_number o b)) e

-- a granted reply is a grant
pub granted_asking : (s : Setting) (account : Option AccountValue) (reading : ℤ) (octets : List ℕ) (o : Outcome)
    (b : History) (e : Effect) (serial : ℕ) (reply : List ℕ)
    → HasEffect s (Stamp account reading octets) o b e → e.says ≡ Stamped serial reply
    → IsGrantAsking s account reading octets o b serial reply e
granted_asking s account reading octets o b e serial reply h says =
    subst (IsGrantAsking s account reading octets o b serial reply) (sym h.2)
    (granted_found s account reading octets o b serial reply h.0 h.1 (sym (ap (λ x. x.says) h.2) ∙ says))

pub granted_is : (s : Setting) (account : Option AccountValue) (reading : ℤ) (octets : List ℕ) (o : Outcome)
    (b : History) (e : Effect) (serial : ℕ) (reply : List ℕ)
    → HasEffect s (Stamp account reading octets) o b e → e.says ≡ Stamped serial reply
    → IsGrant s account reading octets o b serial reply
granted_is s account reading octets o b e serial reply h says =
    (granted_asking s account reading octets o b e serial reply h says).0

one_later : {X : Type 0} (x : X) (xs : List X) (y : X) → Contains xs y → Contains (x ∷ xs) y
one_later x xs y (k, below, is) = (suc k, omega arith, is)

-- the first cause is one of them
first_among : (causes : List (Option Cause)) (cause : Cause) → first_cause causes ≡ Some cause
    → Contains causes (Some cause)
first_among [] cause e = cc
first_among (None ∷ causes) cause e = one_later None causes (Some cause) (first_among causes cause e)
first_among (Some other ∷ causes) cause e = (0, omega arith, e)

-- rule 12 comes from a call without an answer, or where no serial number is left
abbrev IsRefused : Outcome → History → Type 0
IsRefused o b = IsUnanswered o ⊎ (greatest_number ≤ greatest_serial b)

number_among : (o : Outcome) (cause : Cause) → Contains (cause_of o.growing ∷ cause_of o.adding ∷ []) (Some cause)
    → Contains (causes_of o) (Some cause)
number_among o cause (zero, below, is) = (2, omega arith, is)
number_among o cause (suc zero, below, is) = (3, omega arith, is)
number_among o cause (suc (suc k), below, is) = absurd (omega arith)

seal_among : (o : Outcome) (cause : Cause) → Contains (cause_of o.wrapping ∷ cause_of o.sealing ∷ []) (Some cause)
    → Contains (causes_of o) (Some cause)
seal_among o cause (zero, below, is) = (5, omega arith, is)
seal_among o cause (suc zero, below, is) = (6, omega arith, is)
seal_among o cause (suc (suc k), below, is) = absurd (omega arith)

no_number_by : (o : Outcome) (b : History) (cause : Cause) (exhausted : Bool)
    → nat_le greatest_number (greatest_serial b) ≡ exhausted
    → first_cause ((if exhausted then Some OfStore else None) ∷ cause_of o.growing ∷ cause_of o.adding ∷ [])
    ≡ Some cause → IsRefused o b
no_number_by o b cause true le e = inr (grind (arith, nat_tests))
no_number_by o b cause false le e =
    inl (cause, number_among o cause (first_among (cause_of o.growing ∷ cause_of o.adding ∷ []) cause e))

rejected_sealed : (s : Setting) (r : ReservationValue) (token : List ℕ) (o : Outcome) (b : History) (rule : Rule)
    (refused : Option Cause)
    → no_seal o ≡ refused → (stamp_effect s (sealed_or_void r token refused)).says ≡ Rejected rule
    → (rule ≡ System) × IsRefused o b
rejected_sealed s r token o b rule None is e = cc
rejected_sealed s r token o b rule (Some cause) is e =
    (cc, inl (cause, seal_among o cause (first_among (cause_of o.wrapping ∷ cause_of o.sealing ∷ []) cause is)))

rejected_signed : (s : Setting) (p : PendingValue) (r : ReservationValue) (o : Outcome) (b : History) (rule : Rule)
    (signing : Result (List ℕ) SignerFault)
    → o.signing ≡ signing → (stamp_effect s (signed_or_void p r signing o)).says ≡ Rejected rule
    → (rule ≡ System) × IsRefused o b
rejected_signed s p r o b rule (Ok signature) is e = rejected_sealed s r (token_with p signature) o b rule
    (no_seal o) refl e
rejected_signed s p r o b rule (Err signer.Failed) is e =
    (cc, inl (OfSigner, (4, omega arith, ap cause_of_signing is)))
rejected_signed s p r o b rule (Err signer.Memory) is e =
    (cc, inl (OfMemory, (4, omega arith, ap cause_of_signing is)))

rejected_from : (s : Setting) (name : List ℕ) (plan : StampPlan) (octets : List ℕ) (o : Outcome) (b : History)
    (rule : Rule) (refused : Option Cause)
    → no_number o b ≡ refused → (stamp_effect s (stamping_of s name plan octets o b refused)).says ≡ Rejected rule
    → (rule ≡ System) × IsRefused o b
rejected_from s name plan octets o b rule (Some cause) is e =
    (cc, no_number_by o b cause (nat_le greatest_number (greatest_serial b)) refl is)
rejected_from s name plan octets o b rule None is e =
    let r = next_reservation s name plan octets b in rejected_signed s (pending_of s plan r) r o b rule o.signing refl e

unjudged_by : (s : Setting) (account : Option AccountValue) (reading : ℤ) (o : Outcome) (b : History) (cause : Cause)
    → IsUnjudged s.file account reading o b cause → IsRefused o b
unjudged_by s account reading o b cause (inl h) = inl (cause, (0, omega arith, h))
unjudged_by s account reading o b cause (inr h) = inl (cause, (1, omega arith, h.2))

-- where all rules hold, those do that ask the store nothing
unasked_holds : (file : PolicyValue) (account : Option AccountValue) (reading : ℤ) (octets : List ℕ) (b : History)
    → ((rule : Rule) → HoldsAt file account reading octets b rule) → (rule : Rule)
    → HoldsUnasked file account octets rule
unasked_holds file account reading octets b holds Spelling = holds Spelling
unasked_holds file account reading octets b holds Version = holds Version
unasked_holds file account reading octets b holds Account = holds Account
unasked_holds file account reading octets b holds Algorithm = holds Algorithm
unasked_holds file account reading octets b holds HashLength = holds HashLength
unasked_holds file account reading octets b holds Policy = holds Policy
unasked_holds file account reading octets b holds PolicyAlgorithm = holds PolicyAlgorithm
unasked_holds file account reading octets b holds Extensions = holds Extensions
unasked_holds file account reading octets b holds Certificate = holds Certificate
unasked_holds file account reading octets b holds Clock = λ r spelled. tt
unasked_holds file account reading octets b holds Quota = λ r spelled. tt
unasked_holds file account reading octets b holds System = λ r spelled. tt

rejected_found : (s : Setting) (account : Option AccountValue) (reading : ℤ) (octets : List ℕ) (o : Outcome)
    (b : History) (rule : Rule) (f : Finding)
    → Finds s.file account reading octets o b f → (stamp_found s (name_of account) octets o b f).says
    ≡ Rejected rule → IsRejection s account reading octets o b rule
rejected_found s account reading octets o b rule (Fails first) found e =
    let same : first ≡ rule = cc in inl
    (subst (IsFirstFailing (HoldsAt s.file account reading octets b)) same found.0)
rejected_found s account reading octets o b rule (Unanswered cause) found e =
    inr (cc, found.0, unjudged_by s account reading o b cause found.1)
rejected_found s account reading octets o b rule (Allowed plan) found e =
    let last = rejected_from s (name_of account) plan octets o b rule (no_number o b) refl e in
    inr (last.0, unasked_holds s.file account reading octets b found.0.holds, last.1)

-- a rejection is by the first rule that fails, or by rule 12
pub rejected_is : (s : Setting) (account : Option AccountValue) (reading : ℤ) (octets : List ℕ) (o : Outcome)
    (b : History) (e : Effect) (rule : Rule)
    → HasEffect s (Stamp account reading octets) o b e → e.says ≡ Rejected rule
    → IsRejection s account reading octets o b rule
rejected_is s account reading octets o b e rule h says =
    rejected_found s account reading octets o b rule h.0 h.1 (sym (ap (λ x. x.says) h.2) ∙ says)

-- the number that a rejection's text states
stated_number : List ℕ → ℕ
stated_number octets = 10 * (get_or octets 16 0 - 48) + (get_or octets 17 0 - 48)

number_stated : (rule : Rule) → stated_number (encoding (rejection rule)) ≡ number_of rule
unfolding length_octets number_content stated_number
number_stated Spelling = refl
number_stated Version = refl
number_stated Account = refl
number_stated Algorithm = refl
number_stated HashLength = refl
number_stated Policy = refl
number_stated PolicyAlgorithm = refl
number_stated Extensions = refl
number_stated Certificate = refl
number_stated Clock = refl
number_stated Quota = refl
number_stated System = refl

rule_at : ℕ → Rule
rule_at n =
    if n == 1 then Spelling else if n == 2 then Version else if n == 3 then Account else if n == 4 then Algorithm
    else if n == 5 then HashLength
    else if n == 6 then Policy else if n == 7 then PolicyAlgorithm else if n == 8 then Extensions else if n == 9
    then Certificate
    else if n == 10 then Clock else if n == 11 then Quota else System

rule_of_number : (rule : Rule) → rule_at (number_of rule) ≡ rule
unfolding rule_at
rule_of_number Spelling = refl
rule_of_number Version = refl
rule_of_number Account = refl
rule_of_number Algorithm = refl
rule_of_number HashLength = refl
rule_of_number Policy = refl
rule_of_number PolicyAlgorithm = refl
rule_of_number Extensions = refl
rule_of_number Certificate = refl
rule_of_number Clock = refl
rule_of_number Quota = refl
rule_of_number System = refl

-- a rejection's octets tell its rule
pub rejections_differ : (one other : Rule) → encoding (rejection one) ≡ encoding (rejection other) → one ≡ other
rejections_differ one other e =
    sym (rule_of_number one)
    ∙ (ap rule_at (sym (number_stated one) ∙ (ap stated_number e ∙ number_stated other)) ∙ rule_of_number other)

compared_by : (m n : ℕ) (below : Bool) → nat_le m n ≡ below → (above : Bool) → nat_le n m ≡ above → (m ≡ n)
    ⊎ ((m < n) ⊎ (n < m))
compared_by m n true h true k = inl (grind (arith, nat_tests))
compared_by m n true h false k = inr (inl (grind (arith, nat_tests)))
compared_by m n false h above k = inr (inr (grind (arith, nat_tests)))

-- two numbers are the same, or one is below the other
compared : (m n : ℕ) → (m ≡ n) ⊎ ((m < n) ⊎ (n < m))
compared m n = compared_by m n (nat_le m n) refl (nat_le n m) refl

same_least : (H : Rule → Type 0) (one other : Rule) → IsFirstFailing H one → IsFirstFailing H other
    → (number_of one ≡ number_of other) ⊎ ((number_of one < number_of other) ⊎ (number_of other < number_of one))
    → number_of one ≡ number_of other
same_least H one other f g (inl e) = e
same_least H one other f g (inr (inl below)) = absurd (f.fails (g.before one below))
same_least H one other f g (inr (inr below)) = absurd (g.fails (f.before other below))

-- there is one first rule that fails
pub one_first : (H : Rule → Type 0) (one other : Rule) → IsFirstFailing H one → IsFirstFailing H other → one ≡ other
one_first H one other f g =
    sym (rule_of_number one) ∙ (ap rule_at (same_least H one other f g (compared (number_of one) (number_of other)))
    ∙ rule_of_number other)

-- rule 10 or 11 couldn't be judged: a call had no answer
unjudged_answer : (s : Setting) (account : Option AccountValue) (reading : ℤ) (o : Outcome) (b : History)
    (cause : Cause) → IsUnjudged s.file account reading o b cause → IsUnanswered o
unjudged_answer s account reading o b cause (inl h) = (cause, (0, omega arith, h))
unjudged_answer s account reading o b cause (inr h) = (cause, (1, omega arith, h.2))

-- a stamp is granted or rejected
abbrev pub IsOfStamp : Answer → Type 0
IsOfStamp answer =
    ((serial : ℕ) × ((reply : List ℕ) × (answer ≡ Stamped serial reply))) ⊎ ((rule : Rule) × (answer ≡ Rejected rule))

stamp_says : (s : Setting) (st : Stamping) → IsOfStamp (stamp_effect s st).says
stamp_says s (Unreserved cause) = inr (System, refl)
stamp_says s (Void r cause) = inr (System, refl)
stamp_says s (Sealing r token) = inl (r.serial, (granted_octets token, refl))

found_says : (s : Setting) (name octets : List ℕ) (o : Outcome) (b : History) (f : Finding)
    → IsOfStamp (stamp_found s name octets o b f).says
found_says s name octets o b (Fails rule) = inr (rule, refl)
found_says s name octets o b (Unanswered cause) = inr (System, refl)
found_says s name octets o b (Allowed plan) = stamp_says s (stamping_of s name plan octets o b (no_number o b))

pub stamp_answered : (s : Setting) (account : Option AccountValue) (reading : ℤ) (octets : List ℕ) (o : Outcome)
    (b : History) (e : Effect) → HasEffect s (Stamp account reading octets) o b e → IsOfStamp e.says
stamp_answered s account reading octets o b e h =
    subst (λ x. IsOfStamp x.says) (sym h.2) (found_says s (name_of account) octets o b h.0)

-- where no rule fails, all that it needs is answered and a number is left, the stamp is granted
pub granted_where : (s : Setting) (account : Option AccountValue) (reading : ℤ) (octets : List ℕ) (o : Outcome)
    (b : History) (e : Effect) (plan : StampPlan)
    → IsAllowed s.file account reading octets b plan → greatest_serial b < greatest_number → (IsUnanswered o → ⊥)
    → HasEffect s (Stamp account reading octets) o b e
    → (reply : List ℕ) × (e.says ≡ Stamped (greatest_serial b + 1) reply)
granted_where s account reading octets o b e plan allowed left answered h =
    elim (stamp_answered s account reading octets o b e h) [
      | inl k ↦ (
        k.1.0,
        k.1.1 ∙ ap (λ n. Stamped n k.1.0)
            (granted_is s account reading octets o b e k.0 k.1.0 h k.1.1).number,
      )
      | inr k ↦ absurd (elim (rejected_is s account reading octets o b e k.0 h k.1) [
        | inl first ↦ first.fails (allowed.holds k.0)
        | inr last ↦ elim last.2 [ inl call ↦ answered call | inr exhausted ↦ omega arith ]
      ])
    ]

-- where a rule fails, and all that it needs is answered, the stamp is rejected by it
rejected_where_found : (s : Setting) (account : Option AccountValue) (reading : ℤ) (octets : List ℕ) (o : Outcome)
    (b : History) (rule : Rule)
    → IsFirstFailing (HoldsAt s.file account reading octets b) rule → (IsUnanswered o → ⊥) → (f : Finding)
    → Finds s.file account reading octets o b f
    → (stamp_found s (name_of account) octets o b f).says ≡ Rejected rule
rejected_where_found s account reading octets o b rule first answered (Fails other) found =
    ap Rejected (one_first (HoldsAt s.file account reading octets b) other rule found.0 first)
rejected_where_found s account reading octets o b rule first answered (Unanswered cause) found = absurd
    (answered (unjudged_answer s account reading o b cause found.1))
rejected_where_found s account reading octets o b rule first answered (Allowed plan) found = absurd
    (first.fails (found.0.holds rule))

pub rejected_where : (s : Setting) (account : Option AccountValue) (reading : ℤ) (octets : List ℕ) (o : Outcome)
    (b : History) (e : Effect) (rule : Rule)
    → IsFirstFailing (HoldsAt s.file account reading octets b) rule → (IsUnanswered o → ⊥)
    → HasEffect s (Stamp account reading octets) o b e → e.says ≡ Rejected rule
rejected_where s account reading octets o b e rule first answered h =
    ap (λ x. x.says) h.2 ∙ rejected_where_found s account reading octets o b rule first answered h.0 h.1
