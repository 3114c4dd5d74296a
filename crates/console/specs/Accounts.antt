-- Who asks for a token.
use Rattle.std.proofs.Common.{Bor}
use Rattle.std.specs.Prelude.{◌≢◌, List, ℕ, Option, Some, None}
use Rattle.policy.specs.{LookUp.account_of_key, LookUp.anonymous_account, Record.AccountValue, Record.PolicyValue}

-- the account with the key; without a key the one of those that show none
abbrev pub account_shown : PolicyValue → Option (Bor (List ℕ)) → Option AccountValue
account_shown policy None = anonymous_account policy
account_shown policy (Some key) = account_of_key policy key.now

-- an account has the key, where one is shown
abbrev pub IsKnown : PolicyValue → Option (Bor (List ℕ)) → Type 0
IsKnown policy None = Unit {0}
IsKnown policy (Some key) = account_of_key policy key.now ≢ None
