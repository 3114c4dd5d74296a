use Rattle.std.proofs.Common.{[], ap, subst}
use Rattle.sessions.specs.ReconnectingSigner.{nothing, opened}
use Rattle.sessions.proofs.reconnecting_signer.ReconnectingSigner.taken.Goals as goal

pub returns-in-Some-clause-opened : goal.returns-in-Some-clause-opened
returns-in-Some-clause-opened g c =
    let kept = ap (λ s. s.session) c.self.view_is in
    nothing c.args.self.now [] _ (cc (kept, c.in-Some.is, c.take.ensures.value)) (ap (λ s. s.sessions) c.self.view_is)

pub returns-in-None-clause-opened : goal.returns-in-None-clause-opened
returns-in-None-clause-opened g c =
    let kept = ap (λ s. s.session) c.self.view_is in
    opened c.args.self.now _ (cc (kept, c.in-None.is, c.take.ensures.value))
    (subst (λ o. g.O.Sessions.opens o c.open.result c.open.new.self) (ap (λ s. s.sessions) c.self.view_is)
    c.open.ensures.opens) c.open.ensures.fresh
