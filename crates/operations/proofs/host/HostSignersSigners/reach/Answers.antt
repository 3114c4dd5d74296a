use Rattle.std.proofs.Common.{refl}
use Rattle.operations.proofs.host.HostSignersSigners.reach.Goals as goal

pub returns-in_ok-or-in-AfterLoss-clause-kind : goal.returns-in_ok-or-in-AfterLoss-clause-kind
returns-in_ok-or-in-AfterLoss-clause-kind c =
    rw (c.in-Session.is, c.in-AfterLoss.is) (c.in_ok-or-in-AfterLoss.field-0, refl)
