use Rattle.tables.proofs.Words.{IsTrue, err_from_is_err_and, state, subst, ◌↔◌}
use Rattle.tables.proofs.OpenLemmas.{version_plain}
use Rattle.tables.specs.Versions.{IsVersion}
use Rattle.tables.proofs.version.has_version.Goals as goal

pub returns-clause-told : goal.returns-clause-told
returns-clause-told g c clean = (
  c.in_ok-rows.rows.items,
  c.in_ok-rows.ensures.answered clean (version_plain (state g.S.Store c.args.conn.now).now.schema),
  subst (λ rows. IsTrue c.is_version.result ↔ IsVersion c.args.number rows) c.as_slice.ensures.value
      c.is_version.ensures,
)

pub returns-in_err-rows-clause-unanswered : goal.returns-in_err-rows-clause-unanswered
returns-in_err-rows-clause-unanswered g c clean =
    let failing = err_from_is_err_and c.from_residual.result c.from_residual.ensures.1 in
    rw (failing.1, failing.2) (c.in_err-rows.ensures.unanswered clean
    (version_plain (state g.S.Store c.args.conn.now).now.schema))
