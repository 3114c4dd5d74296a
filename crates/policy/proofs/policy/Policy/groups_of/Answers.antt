use Rattle.std.proofs.Common.{◌∙◌}
use Rattle.policy.{specs.LookUp.has_member, specs.View.group_view, proofs.Kept.kept_values}
use Rattle.policy.proofs.policy.Policy.groups_of.Goals as goal

pub returns : goal.returns
returns c =
    let lent = rw c.deref.ensures.value at c.of.ensures in
    lent ∙ kept_values group_view (λ g. has_member g c.args.account.now) (λ g. g.name) c.args.self.now.groups.items
