use Rattle.tables.proofs.BaseReads.{read_on, refused_too}
use Rattle.tables.proofs.base.Base.any_row.Goals as goal

pub returns : goal.returns
returns g c = read_on g.S.Store _ _ _ _ _ _ (λ t told. (_, told, c.is_some.ensures)) c.in_ok-found.ensures

pub returns-in_err-found : goal.returns-in_err-found
returns-in_err-found g c = refused_too g.S.Store _ _ _ _ _ _ c.from_residual.ensures.1 c.in_err-found.ensures
