-- What a reply says of its request, over the history for which the store stood.
use Rattle.std.specs.Prelude.{◌≡◌, ℕ, ◌+◌, ◌⊎◌, ℤ, List, Option, Result, Ok}
use Rattle.policy.specs.Record.{AccountValue}
use Rattle.tsp.specs.declared.rule.Rule.TheVariants.{System}
use Rattle.tsp.specs.{Granted.granted_octets, Rules.IsFirstFailing, declared.rule.Rule.Rule}
use Rattle.cms.specs.{SignedData.attribute_text, SignedData.token, declared.signer.SignerFault.SignerFault}
use Rattle.book.specs.History.{History, greatest_serial}
use Rattle.desk.specs.Findings.{StampPlan, IsAllowed, HoldsAt, HoldsUnasked}
use Rattle.desk.specs.{Command.Setting, Texts.tst_of}

-- A grant: none of the rules 1 to 11 fails; the serial number is the greatest plus one; and the octets are those of the
-- token over the plan's one TSTInfo under that number, with the signer's answer to the token's attributes.
pub record IsGranted (s : Setting) (signs : List ℕ → Result (List ℕ) SignerFault → Type 0)
    (account : Option AccountValue) (reading : ℤ) (octets : List ℕ) (b : History) (serial : ℕ) (reply : List ℕ)
    : Type 0 where
  pub plan : StampPlan
  pub allowed : IsAllowed s.file account reading octets b plan
  pub number : serial ≡ greatest_serial b + 1
  pub signature : List ℕ
  pub signed : signs (attribute_text s.in_force.identity (tst_of s plan serial)) (Ok signature)
  pub text : reply ≡ granted_octets (token s.in_force.identity s.in_force.algorithm (tst_of s plan serial) signature
      plan.request.cert_req)

-- A rejection: by the first rule that fails; or by rule 12, which is given only where the rules 1 to 9 hold. What it
-- comes from, the outcome tells (`IsRejection`).
abbrev pub IsRejected : Setting → Option AccountValue → ℤ → List ℕ → History → Rule → Type 0
IsRejected s account reading octets b rule = IsFirstFailing (HoldsAt s.file account reading octets b) rule
    ⊎ ((rule ≡ System) × ((unasked : Rule) → HoldsUnasked s.file account octets unasked))
