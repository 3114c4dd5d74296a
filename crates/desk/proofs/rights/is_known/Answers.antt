use Rattle.policy.specs.View.{account_view, policy_view}
use Rattle.desk.proofs.documents.Shows.{known_by}
use Rattle.desk.proofs.rights.is_known.Goals as goal

pub returns : goal.returns
returns c =
    known_by (λ a. account_view a.now) (policy_view c.args.policy.now) c.args.name.now c.account_named.result
    c.is_some.result c.is_some.ensures c.account_named.ensures
