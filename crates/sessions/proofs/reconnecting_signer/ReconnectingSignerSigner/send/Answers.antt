use Rattle.std.proofs.Common.{◌<◌, [], map, Some, refl, sym, ap, ◌∙◌, subst, arith}
use Rattle.sessions.specs.ReconnectingSigner.{nothing, lost}
use Rattle.sessions.proofs.{Chains.none_texts, Chains.some_texts, Chains.some_owed, Chains.none_owed, Chains.hands_none}
use Rattle.sessions.proofs.{Chains.hands_abandoned, Chains.hands_refused, Chains.hands_all, Chains.hands_singly}
use Rattle.sessions.proofs.{Chains.hands_failed, Chains.sends_off}
use Rattle.sessions.proofs.reconnecting_signer.ReconnectingSignerSigner.send.Goals as goal

pub returns-then-is_empty-clause-awaits : goal.returns-then-is_empty-clause-awaits
returns-then-is_empty-clause-awaits g c =
    hands_none _ _ _ _ _ _ _ _ (map (λ text. text.now) c.args.texts.now)
    (none_texts (λ text. text.now) c.args.texts.now (sym c.is_empty.ensures ∙ c.if-is_empty.true))

pub returns-in-Some-clause-awaits : goal.returns-in-Some-clause-awaits
returns-in-Some-clause-awaits g c =
    let empty = ap (λ s. s.session) c.lose.ensures.lost ∙ c.take.ensures.after in
    hands_abandoned _ _ _ _ _ _ _ _ _ _
    (some_texts (λ text. text.now) c.args.texts.now (sym c.is_empty.ensures ∙ c.if-is_empty.false))
    (subst (λ n. 0 < n) (ap (λ s. s.ahead) c.self.view_is) (some_owed c.self.inside.rooms.len
    (sym c.is_empty-2.ensures ∙ c.if-not-is_empty.true)))
    empty (ap (λ s. s.ahead) c.lose.ensures.lost) (ap (λ s. s.is_lost) c.lose.ensures.lost)
    (lost c.args.self.now c.lose.new.self c.in-Some.session
    (ap (λ s. s.session) (sym c.self.view_is) ∙ sym c.take.ensures.value ∙ c.in-Some.is)
    (rw (ap (λ s. s.sessions) c.self.view_is) at c.lose.ensures.told) empty)

pub returns-in-None-clause-awaits : goal.returns-in-None-clause-awaits
returns-in-None-clause-awaits g c =
    hands_abandoned _ _ _ _ _ _ _ _ _ _
    (some_texts (λ text. text.now) c.args.texts.now (sym c.is_empty.ensures ∙ c.if-is_empty.false))
    (subst (λ n. 0 < n) (ap (λ s. s.ahead) c.self.view_is) (some_owed c.self.inside.rooms.len
    (sym c.is_empty-2.ensures ∙ c.if-not-is_empty.true)))
    c.take.ensures.after (omega (arith, c.truncate.ensures.len)) refl
    (nothing _ [] _
    (c.take.ensures.after ∙ sym (ap (λ s. s.session) (sym c.self.view_is) ∙ sym c.take.ensures.value ∙ c.in-None.is))
    (ap (λ s. s.sessions) c.self.view_is))

pub returns-in_default-clause-awaits : goal.returns-in_default-clause-awaits
returns-in_default-clause-awaits g c =
    let empty = ap (λ s. s.session) c.self-2.view_is ∙ ap (λ s. s.session) c.taken.ensures.none_kept in
    hands_refused _ _ _ _ _ _ _ _ _ _
    (some_texts (λ text. text.now) c.args.texts.now (sym c.is_empty.ensures ∙ c.if-is_empty.false))
    c.in_default.ensures.missing empty
    (ap (λ s. s.ahead) c.self-2.view_is ∙ ap (λ s. s.ahead) c.taken.ensures.none_kept
    ∙ ap (λ s. s.ahead) (sym c.self.view_is) ∙ none_owed c.self.inside.rooms.len
    (sym c.is_empty-2.ensures ∙ c.if-not-is_empty.false)) refl
    (sends_off _ _ _ _ _ _ _ _ [] c.taken.ensures.opened
    (nothing _ [] _ (empty ∙ sym c.in_default.is) (ap (λ s. s.sessions) c.self-2.view_is)))

pub returns-in-Ok-clause-awaits : goal.returns-in-Ok-clause-awaits
returns-in-Ok-clause-awaits g c =
    hands_all _ _ _ _ _ _ _ _ _ _ c.in-Some-taken.session c.send_ahead.new.self _
    (some_texts (λ text. text.now) c.args.texts.now (sym c.is_empty.ensures ∙ c.if-is_empty.false))
    c.in-Some-taken.ensures.taken c.in-Ok.ensures.sends.1 c.taken.ensures.opened c.in-Some-taken.is
    c.send_ahead.ensures.sent refl (ap (λ s. s.sessions) c.self-2.view_is) c.in-Ok.ensures.sends.0 refl

pub returns-in-Err-Memory-clause-awaits : goal.returns-in-Err-Memory-clause-awaits
returns-in-Err-Memory-clause-awaits g c =
    hands_singly _ _ _ _ _ _ _ _ _ _ c.in-Some-taken.session _
    (some_texts (λ text. text.now) c.args.texts.now (sym c.is_empty.ensures ∙ c.if-is_empty.false))
    c.in-Some-taken.ensures.taken c.taken.ensures.opened c.in-Some-taken.is
    (ap Some (rw c.in-Err-Memory.field-0-is at c.in-Err-Memory.ensures.sends))
    (ap (λ s. s.sessions) c.self-2.view_is)
    (ap (λ s. s.ahead) c.self-2.view_is ∙ ap (λ s. s.ahead) c.taken.ensures.none_kept
    ∙ ap (λ s. s.ahead) (sym c.self.view_is) ∙ none_owed c.self.inside.rooms.len
    (sym c.is_empty-2.ensures ∙ c.if-not-is_empty.false)) refl

pub returns-in-Err-Failed-clause-awaits : goal.returns-in-Err-Failed-clause-awaits
returns-in-Err-Failed-clause-awaits g c =
    let fails = rw c.in-Err-Failed.field-0-is at c.in-Err-Failed.ensures.sends in
    hands_failed _ _ _ _ _ _ _ _ _ _ c.in-Some-taken.session c.send_ahead.new.self _
    (some_texts (λ text. text.now) c.args.texts.now (sym c.is_empty.ensures ∙ c.if-is_empty.false))
    c.in-Some-taken.ensures.taken fails.0 c.taken.ensures.opened c.in-Some-taken.is c.send_ahead.ensures.sent
    c.lose-in-Err-Failed.ensures.told
    (ap (λ s. s.session) c.lose-in-Err-Failed.ensures.lost ∙ ap (λ s. s.session) c.taken.ensures.none_kept)
    (ap (λ s. s.ahead) c.lose-in-Err-Failed.ensures.lost) (ap (λ s. s.is_lost) c.lose-in-Err-Failed.ensures.lost)
