-- What of a reply is certain, whatever a database holds.
use Rattle.std.specs.Prelude.{◌≡◌, ℕ, List, Option}
use Rattle.policy.specs.Record.{AccountValue, PolicyValue}
use Rattle.tsp.specs.{Rules.IsFirstFailing, declared.rule.Rule.Rule}
use Rattle.desk.specs.{Command.Answer, Command.Rejected, Findings.HoldsUnasked}

-- by the first rule of 1 to 9 that fails of the octets, the reply is that rule's rejection
abbrev pub IsJudgedReply : PolicyValue → Option AccountValue → List ℕ → Answer → Type 0
IsJudgedReply file account octets reply =
    (rule : Rule) → IsFirstFailing (HoldsUnasked file account octets) rule → reply ≡ Rejected rule
