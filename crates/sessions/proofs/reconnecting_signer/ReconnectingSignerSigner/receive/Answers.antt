use Rattle.std.proofs.Common.{◌≡◌, ℕ, ◌<◌, refl, sym, ap, ◌∙◌, subst, arith}
use Rattle.cms.specs.Signer.{signed_by}
use Rattle.sessions.specs.ReconnectingSigner.{ReconnectingState}
use Rattle.sessions.proofs.Chains.{lost_next, asked_next, answered_next, failed_next}
use Rattle.sessions.proofs.reconnecting_signer.ReconnectingSignerSigner.receive.Goals as goal

pub returns-then-self-clause-awaits : goal.returns-then-self-clause-awaits
returns-then-self-clause-awaits g c =
    lost_next g.S.Signer.sent g.O.Sessions.fresh g.O.Sessions.opens g.O.Sessions.signed g.O.Sessions.loses
    g.S.Signer.signs g.S.Pipeline.ahead c.args.self.now
    c.fail.new.self c.args.text.now c.fail.result c.fail.ensures.failed
    (ap (λ s. s.is_lost) (sym c.self.view_is) ∙ c.if-self.true) (ap (λ s. s.session) c.fail.ensures.counted)
    (ap (λ s. s.sessions) c.fail.ensures.counted) (ap (λ s. s.ahead) c.fail.ensures.counted)
    (ap (λ s. s.is_lost) c.fail.ensures.counted)

pub returns-in_default-clause-awaits : goal.returns-in_default-clause-awaits
returns-in_default-clause-awaits g c =
    let state : ℕ → ReconnectingState g.row.S.Denot g.row.O.Denot = λ n. record {
      sessions = c.self.inside.sessions;
      session = c.self.inside.session;
      algorithm = c.self.inside.algorithm;
      faults = c.self.inside.faults;
      ahead = n;
      is_lost = c.self.inside.is_lost;
    } in
    let none : c.self.inside.rooms.len ≡ 0 = omega (arith, c.in_default.ensures.cases) in
    let same : c.pop.new.self.len ≡ c.self.inside.rooms.len = omega (arith, c.in_default.ensures.cases) in
    asked_next g.S.Signer.sent g.O.Sessions.fresh g.O.Sessions.opens g.O.Sessions.signed g.O.Sessions.loses
    g.S.Signer.signs g.S.Pipeline.ahead
    (state c.pop.new.self.len) c.args.self.now c.ask.new.self c.args.text.now (signed_by c.ask.result)
    (ap state same ∙ c.self.view_is) (ap (λ s. s.is_lost) (sym c.self.view_is) ∙ c.if-self.false)
    (ap (λ s. s.ahead) (sym c.self.view_is) ∙ none) c.ask.ensures.signs c.ask.ensures.sent c.ask.ensures.none_ahead
    c.ask.ensures.lost

pub returns-in-Ok-clause-awaits : goal.returns-in-Ok-clause-awaits
returns-in-Ok-clause-awaits g c =
    answered_next _ _ _ _ _ g.S.Signer.signs g.S.Pipeline.ahead c.args.self.now _
    c.in-Some-take.session c.receive_ahead.new.self c.args.text.now c.in-Ok.answer.items g.met.S.Pipeline.all_received
    (subst (λ n. 0 < n) (ap (λ s. s.ahead) c.self.view_is) (omega (arith, c.in-Some.ensures.cases)))
    (ap (λ s. s.session) (sym c.self.view_is) ∙ sym c.take.ensures.value ∙ c.in-Some-take.is)
    c.in-Ok.ensures.receives c.receive_ahead.ensures.sent refl
    (rw (ap (λ s. s.sessions) c.self.view_is) at c.signed.ensures)
    (c.in-Some.ensures.cases ∙ ap (λ s. s.ahead) c.self.view_is) c.if-self.false

pub returns-in-Err-clause-awaits : goal.returns-in-Err-clause-awaits
returns-in-Err-clause-awaits g c =
    failed_next _ _ _ _ _ g.S.Signer.signs g.S.Pipeline.ahead c.args.self.now _
    c.in-Some-take.session c.receive_ahead.new.self c.args.text.now c.fail-in-Err.result c.fail-in-Err.ensures.failed
    (subst (λ n. 0 < n) (ap (λ s. s.ahead) c.self.view_is) (omega (arith, c.in-Some.ensures.cases)))
    (ap (λ s. s.session) (sym c.self.view_is) ∙ sym c.take.ensures.value ∙ c.in-Some-take.is)
    c.in-Err.ensures.receives c.receive_ahead.ensures.sent
    (ap (λ s. s.session) c.fail-in-Err.ensures.counted ∙ ap (λ s. s.session) c.lose.ensures.lost
    ∙ c.take.ensures.after)
    (rw (ap (λ s. s.sessions) c.self.view_is, sym (ap (λ s. s.sessions) c.fail-in-Err.ensures.counted)) at
    c.lose.ensures.told)
    (ap (λ s. s.ahead) c.fail-in-Err.ensures.counted ∙ ap (λ s. s.ahead) c.lose.ensures.lost)
    (ap (λ s. s.is_lost) c.fail-in-Err.ensures.counted)
