use Rattle.store.proofs.DepositAnswers.{with_label, without_label, without_origin}
use Rattle.store.proofs.{Calls.kept_seen, Calls.looks_now, Calls.no_answer, Walk.looks_after}
use Rattle.store.proofs.store.Store.listing.Goals as goal

pub returns-in_err-origin-clause-looks : goal.returns-in_err-origin-clause-looks
returns-in_err-origin-clause-looks g c = looks_now g.S.Store _ _ _ c.self.view_is c.in_err-origin.ensures.reads

pub returns-in_default-clause-value : goal.returns-in_default-clause-value
returns-in_default-clause-value g c honest b s owned =
    let kept = kept_seen g.S.Store _ _ b c.self.view_is s in
    without_origin b _ _ s.sound c.in_default.is (c.in_ok-origin.ensures.value honest _ kept)

pub returns-in_default-2-clause-value : goal.returns-in_default-2-clause-value
returns-in_default-2-clause-value g c honest b s owned =
    let kept = kept_seen g.S.Store _ _ b c.self.view_is s in
    let first = looks_now g.S.Store _ _ _ c.self.view_is c.in_ok-origin.ensures.reads in
    let found = c.in_ok-origin.ensures.value (c.in_ok-reference.ensures.looks.honest honest) _ kept in
    let labelled = c.in_ok-reference.ensures.value honest b (first.stands b s) owned in
    without_label b _ _ _ _ _ s.sound c.in-Some.is c.deref.ensures c.in_default-2.is found labelled

pub returns-clause-value : goal.returns-clause-value
returns-clause-value g c honest b s owned =
    let kept = kept_seen g.S.Store _ _ b c.self.view_is s in
    let first = looks_now g.S.Store _ _ _ c.self.view_is c.in_ok-origin.ensures.reads in
    let found = c.in_ok-origin.ensures.value (c.in_ok-reference.ensures.looks.honest honest) _ kept in
    let labelled = c.in_ok-reference.ensures.value honest b (first.stands b s) owned in
    with_label b _ _ _ _ _ _ s.sound c.in-Some.is c.deref.ensures c.in-Some-2.is found labelled

pub returns-in_default-clause-looks : goal.returns-in_default-clause-looks
returns-in_default-clause-looks g c = looks_now g.S.Store _ _ _ c.self.view_is c.in_ok-origin.ensures.reads

pub returns-in_err-reference-clause-looks : goal.returns-in_err-reference-clause-looks
returns-in_err-reference-clause-looks g c =
    looks_after g.S.Store _ _ _ (looks_now g.S.Store _ _ _ c.self.view_is c.in_ok-origin.ensures.reads)
    c.in_err-reference.ensures.looks

pub returns-in_default-2-clause-looks : goal.returns-in_default-2-clause-looks
returns-in_default-2-clause-looks g c =
    looks_after g.S.Store _ _ _ (looks_now g.S.Store _ _ _ c.self.view_is c.in_ok-origin.ensures.reads)
    c.in_ok-reference.ensures.looks

pub returns-clause-looks : goal.returns-clause-looks
returns-clause-looks g c =
    looks_after g.S.Store _ _ _ (looks_now g.S.Store _ _ _ c.self.view_is c.in_ok-origin.ensures.reads)
    c.in_ok-reference.ensures.looks

pub returns-in_err-origin-clause-value : goal.returns-in_err-origin-clause-value
returns-in_err-origin-clause-value g c honest b s owned = no_answer _ _ c.from_residual.ensures.0

pub returns-in_err-reference-clause-value : goal.returns-in_err-reference-clause-value
returns-in_err-reference-clause-value g c honest b s owned =
    no_answer _ _ c.from_residual-in_err-reference.ensures.0

pub returns-in_default-2-clause-known : goal.returns-in_default-2-clause-known
returns-in_default-2-clause-known g c honest b s owned =
    c.in_ok-reference.ensures.known honest b
    ((looks_now g.S.Store _ _ _ c.self.view_is c.in_ok-origin.ensures.reads).stands b s) owned

pub returns-clause-known : goal.returns-clause-known
returns-clause-known g c honest b s owned =
    c.in_ok-reference.ensures.known honest b
    ((looks_now g.S.Store _ _ _ c.self.view_is c.in_ok-origin.ensures.reads).stands b s) owned
