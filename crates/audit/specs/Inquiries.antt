-- What an inquiry stands for.
use Rattle.policy.specs.View.{account_view, policy_view}
use Rattle.audit.specs.declared.fault.ExtractFault.{ExtractFault}
use Rattle.audit.specs.{Auditor.IsAllowed, Auditor.ComesWhere, declared.extracts.Inquiry.Inquiry}

-- an auditor asks, and for a range
abbrev pub Allows : Inquiry → Type 0
Allows i = IsAllowed (policy_view i.policy.now) (account_view i.account.now) i.from i.to

-- where each refusal comes
abbrev pub ComesFor : Inquiry → ExtractFault → Type 0
ComesFor i f = ComesWhere (policy_view i.policy.now) (account_view i.account.now) i.from i.to f
