use Rattle.std.proofs.Common.{sym, ◌∙◌}
use Rattle.policy.specs.View.{policy_view}
use Rattle.desk.specs.Viewers.{viewer_in}
use Rattle.desk.specs.declared.obstacle.Obstacle.TheVariants as obstacle
use Rattle.desk.proofs.{documents.Shows.seen_where, calls.Wrapped.call_ok}
use Rattle.desk.proofs.sight.see.Goals as goal

pub returns-clause-sees : goal.returns-clause-sees
returns-clause-sees g c honest b st =
    let told = call_ok obstacle.Searching c.visible.result c.in_ok-visible.visible c.in_ok-visible.ensures.cases in
    seen_where (viewer_in (policy_view c.args.policy.now) c.args.account.now) c.args.number b
    (sym c.if-not-visible.false
    ∙ (rw (told, c.as_slice.ensures, c.groups_of-groups.ensures) at (c.visible.ensures.value honest b st)))
