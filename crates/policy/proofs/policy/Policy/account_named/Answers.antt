use Rattle.std.specs.Str.{bytes_eq}
use Rattle.policy.{specs.View.account_view, proofs.Searches.found_value}
use Rattle.policy.proofs.policy.Policy.account_named.Goals as goal

pub returns : goal.returns
returns c =
    let found = rw c.deref.ensures.value at c.find_by_name.ensures in
    found_value (λ x. x.now) account_view
    (λ x. bytes_eq x.name c.args.name.now) c.find_by_name.result c.args.self.now.accounts.items found
