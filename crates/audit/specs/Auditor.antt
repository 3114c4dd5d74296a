-- Who may have an extract, of which range, and which refusal comes where.
use Rattle.std.specs.Prelude.{◌≡◌, ℕ, ◌≤◌, true, Contains}
use Rattle.policy.specs.Record.{AccountValue, PolicyValue}
use Rattle.audit.specs.declared.fault.ExtractFault.{ExtractFault}
use Rattle.audit.specs.declared.fault.ExtractFault.TheVariants.{NotAuditor, Range, Memory, Store, Write}

-- the account is one of the policy file's, active, and an auditor
pub record IsAuditor (file : PolicyValue) (account : AccountValue) : Type 0 where
  pub known : Contains file.accounts account
  pub active : account.active ≡ true
  pub auditor : account.auditor ≡ true

-- serial numbers from 1 on, and not backwards
pub record IsRange (from to : ℕ) : Type 0 where
  pub least : 1 ≤ from
  pub most : from ≤ to

-- an auditor asks, and for a range
pub record IsAllowed (file : PolicyValue) (account : AccountValue) (from to : ℕ) : Type 0 where
  pub auditor : IsAuditor file account
  pub range : IsRange from to

-- where each refusal comes: whoever is no auditor is told so before a range is looked at, and both before all else
abbrev pub ComesWhere : PolicyValue → AccountValue → ℕ → ℕ → ExtractFault → Type 0
ComesWhere file account from to NotAuditor = ¬ IsAuditor file account
ComesWhere file account from to Range = IsAuditor file account × ¬ IsRange from to
ComesWhere file account from to Memory = IsAllowed file account from to
ComesWhere file account from to Store = IsAllowed file account from to
ComesWhere file account from to Write = IsAllowed file account from to

-- what is so where nothing was looked at yet
abbrev pub IfUnasked : Type 0 → ExtractFault → Type 0
IfUnasked P NotAuditor = P
IfUnasked P Range = P
IfUnasked P Memory = Unit {0}
IfUnasked P Store = Unit {0}
IfUnasked P Write = Unit {0}

-- a refusal that is met on the way
abbrev pub IsMet : ExtractFault → Type 0
IsMet NotAuditor = ⊥
IsMet Range = ⊥
IsMet Memory = Unit {0}
IsMet Store = Unit {0}
IsMet Write = Unit {0}
