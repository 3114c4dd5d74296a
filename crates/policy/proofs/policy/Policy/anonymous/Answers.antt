use Rattle.std.{specs.Str.bytes_eq, proofs.Common.string_bytes}
use Rattle.policy.{specs.View.account_view, proofs.Searches.found_value}
use Rattle.policy.proofs.policy.Policy.anonymous.Goals as goal

pub returns-in-Some : goal.returns-in-Some
returns-in-Some c =
    let name = string_bytes c.in-Some.name in
    let found = rw (c.deref.ensures.value, c.as_str.ensures.value) at c.find_by_name.ensures in
    rw c.in-Some.is (found_value (λ x. x.now) account_view
    (λ x. bytes_eq x.name name) c.find_by_name.result c.args.self.now.accounts.items found)
