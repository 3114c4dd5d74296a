use Rattle.std.proofs.Common.{[], ◌∷◌, refl, sym, ap, ◌∙◌}
use Rattle.sessions.specs.ReconnectingSigner.{asks, nothing, hands}
use Rattle.sessions.proofs.Chains.{asks_failed, sends_on, hands_told, hands_lost}
use Rattle.sessions.proofs.reconnecting_signer.ReconnectingSigner.ask.Goals as goal

pub returns-in_default-clause-sent : goal.returns-in_default-clause-sent
returns-in_default-clause-sent g c =
    let empty = ap (λ s. s.session) c.fail.ensures.counted ∙ ap (λ s. s.session) c.taken.ensures.none_kept in
    sends_on _ _ _ _ _ _ _ _ (c.args.text.now ∷ []) c.taken.ensures.opened
    (nothing _ (c.args.text.now ∷ []) _ (empty ∙ sym c.in_default.is) (ap (λ s. s.sessions) c.fail.ensures.counted))

pub returns-in-Ok-clause-signs : goal.returns-in-Ok-clause-signs
returns-in-Ok-clause-signs g c =
    asks c.in-Some.session c.in-Some.ensures.taken
    (record { after = c.sign.new.self; signs_it = c.in-Ok.ensures.signs; left_so = refl })

pub returns-in-Ok-clause-sent : goal.returns-in-Ok-clause-sent
returns-in-Ok-clause-sent g c =
    sends_on _ _ _ _ _ _ _ _ (c.args.text.now ∷ []) c.taken.ensures.opened
    (hands_told _ _ _ _ _ _ _ (c.args.text.now ∷ []) c.in-Some.session c.sign.new.self c.in-Some.is
    c.sign.ensures.sent refl (rw (ap (λ s. s.sessions) c.self.view_is) at c.signed.ensures))

pub returns-in-Err-Memory-clause-signs : goal.returns-in-Err-Memory-clause-signs
returns-in-Err-Memory-clause-signs g c =
    asks c.in-Some.session c.in-Some.ensures.taken (record {
      after = c.sign.new.self;
      signs_it = rw c.in-Err-Memory.field-0-is at c.in-Err-Memory.ensures.signs;
      left_so = refl;
    })

pub returns-in-Err-Memory-clause-sent : goal.returns-in-Err-Memory-clause-sent
returns-in-Err-Memory-clause-sent g c =
    sends_on _ _ _ _ _ _ _ _ (c.args.text.now ∷ []) c.taken.ensures.opened
    (hands _ (c.args.text.now ∷ []) _ c.in-Some.session c.sign.new.self c.in-Some.is c.sign.ensures.sent refl
    (ap (λ s. s.sessions) c.self-in-Err-Memory.view_is))

pub returns-in-Err-Failed-clause-signs : goal.returns-in-Err-Failed-clause-signs
returns-in-Err-Failed-clause-signs g c =
    asks_failed g.S.Signer.signs g.O.Sessions.fresh c.args.self.now c.fail-in-Err-Failed.new.self c.in-Some.session
    c.sign.new.self c.args.text.now c.in-Err-Failed.field-0 c.fail-in-Err-Failed.result c.in-Err-Failed.field-0-is
    c.fail-in-Err-Failed.ensures.failed c.in-Some.ensures.taken c.in-Err-Failed.ensures.signs
    (ap (λ s. s.session) c.fail-in-Err-Failed.ensures.counted ∙ ap (λ s. s.session) c.lose.ensures.lost
    ∙ ap (λ s. s.session) c.taken.ensures.none_kept)

pub returns-in-Err-Failed-clause-sent : goal.returns-in-Err-Failed-clause-sent
returns-in-Err-Failed-clause-sent g c =
    sends_on _ _ _ _ _ _ _ _ (c.args.text.now ∷ []) c.taken.ensures.opened
    (hands_lost _ _ _ _ _ _ _ (c.args.text.now ∷ []) c.in-Some.session c.sign.new.self c.in-Some.is
    c.sign.ensures.sent
    (ap (λ s. s.session) c.fail-in-Err-Failed.ensures.counted ∙ ap (λ s. s.session) c.lose.ensures.lost
    ∙ ap (λ s. s.session) c.taken.ensures.none_kept)
    (rw (sym (ap (λ s. s.sessions) c.fail-in-Err-Failed.ensures.counted)) at c.lose.ensures.told))
