use Rattle.service.proofs.AccountLemmas.{used_alike}
use Rattle.service.proofs.laws.accounts_are_told_alike.Goals as goal

pub returns : goal.returns
returns c = used_alike
