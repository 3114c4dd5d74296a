use Rattle.std.proofs.Common.{map, subst}
use Rattle.std.specs.Prelude.{◌↔◌, IsTrue}
use Rattle.book.specs.Values.{identity_view, stamp_view}
use Rattle.tsp.specs.View.{request_view, tst_view}
use Rattle.audit.specs.Consistent.{Agree}
use Rattle.audit.proofs.Checks.{none_consistent, tells_consistent}
use Rattle.audit.proofs.check.check_row.Goals as goal

pub returns-in_default-read_request : goal.returns-in_default-read_request
returns-in_default-read_request c = (
  λ e. absurd (cc e),
  λ k. absurd (none_consistent (stamp_view c.args.stamp.now) (map identity_view c.args.identities.now)
      c.deref-2.result.now c.deref-2.ensures.value c.in_default-read_request.ensures.only k),
)

pub returns : goal.returns
returns c =
    let stamp = stamp_view c.args.stamp.now in
    let tst = tst_view c.in-Ok.tst in
    let request = request_view c.in-Ok-read_request.request in
    let agree = subst (λ identity. IsTrue c.agree.result ↔ Agree stamp identity tst request)
    c.identity_at-identity.ensures
    c.agree.ensures in
    tells_consistent stamp (map identity_view c.args.identities.now) tst request c.agree.result c.deref.result.now
    c.deref-2.result.now c.deref.ensures.value c.deref-2.ensures.value c.in-Ok.ensures.found c.in-Ok.ensures.only
    c.in-Ok-read_request.ensures.found c.in-Ok-read_request.ensures.short c.in-Ok-read_request.ensures.only agree
