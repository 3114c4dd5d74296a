use Rattle.tables.proofs.Words.{Database, [], err_from_is_err_and, inr, state, subst, sym, ◌∙◌}
use Rattle.tables.proofs.AnswerLemmas.{no_answer, no_success}
use Rattle.tables.proofs.OpenLemmas.{TellsNumber, known_as, not_said, shown_foreign, unanswered_since}
use Rattle.tables.specs.Versions.{IsKnownAs, number_of, version_query}
use Rattle.tables.proofs.version.found_version.Goals as goal

pub returns-in_default-clause-found : goal.returns-in_default-clause-found
returns-in_default-clause-found g c clean v t is =
    sym c.in_default.is ∙ known_as v t _ is c.in_ok-version.field-0 (c.in_ok-version.ensures.known clean).2

pub returns-then-branch-clause-found : goal.returns-then-branch-clause-found
returns-then-branch-clause-found g c clean v t is =
    sym c.in-Some.is ∙ known_as v t _ is c.in_ok-version.field-0
    (c.in_ok-version.ensures.known (c.has_version.ensures.looks.clean clean)).2

pub returns-clause-found : goal.returns-clause-found
returns-clause-found g c clean v t is =
    let known = c.in_ok-version.ensures.known (c.has_version.ensures.looks.clean clean) in
    absurd (not_said v c.in-Some.version t _ _ known.1 is c.in_ok-version.field-0 known.2 c.in-Some.is
    c.in_ok-has_version.field-0
    (rw (sym c.number.ensures) (c.in_ok-has_version.ensures.told clean)) c.if-branch.false)

pub returns-clause-shown : goal.returns-clause-shown
returns-clause-shown g c clean =
    let known = c.in_ok-version.ensures.known (c.has_version.ensures.looks.clean clean) in
    let s = state g.S.Store c.args.conn.now in
    shown_foreign c.in-Some.version s
    (subst (λ found. IsKnownAs found s.now.schema) c.in-Some.is known.2)
    c.in_ok-has_version.field-0
    (subst (λ (d : Database). TellsNumber (number_of c.in-Some.version) d c.in_ok-has_version.field-0)
    known.1
    (rw (sym c.number.ensures) (c.in_ok-has_version.ensures.told clean))) c.if-branch.false

pub returns-in_err-has_version-clause-untold : goal.returns-in_err-has_version-clause-untold
returns-in_err-has_version-clause-untold g c clean =
    let it = c.from_residual-in_err-has_version in
    let failing = err_from_is_err_and it.result it.ensures.1 in
    let last = c.in_err-has_version.ensures in
    let before = last.looks.clean clean in
    let looks = c.in_ok-version.ensures.looks in
    let known = c.in_ok-version.ensures.known before in
    let s = state g.S.Store c.args.conn.now in
    rw (failing.1, failing.2) (λ other. inr (
      c.in-Some.version,
      subst (λ found. IsKnownAs found s.now.schema) c.in-Some.is known.2,
      unanswered_since s (state g.S.Store c.known_version.new.conn) (state g.S.Store c.has_version.new.conn)
          looks.usable before known.0 last.looks.usable.counts known.1 version_query []
          (last.unanswered clean other),
    ))

pub returns-in_err-version-clause-found : goal.returns-in_err-version-clause-found
returns-in_err-version-clause-found g c clean v t is = no_answer _ _ c.from_residual.ensures.0

pub returns-in_err-version-clause-shown : goal.returns-in_err-version-clause-shown
returns-in_err-version-clause-shown g c clean = no_answer _ _ c.from_residual.ensures.0

pub returns-in_err-version-clause-opened : goal.returns-in_err-version-clause-opened
returns-in_err-version-clause-opened g c clean = no_success _ _ c.from_residual.ensures.0

pub returns-in_err-has_version-clause-found : goal.returns-in_err-has_version-clause-found
returns-in_err-has_version-clause-found g c clean v t is = no_answer _ _ c.from_residual-in_err-has_version.ensures.0

pub returns-in_err-has_version-clause-shown : goal.returns-in_err-has_version-clause-shown
returns-in_err-has_version-clause-shown g c clean = no_answer _ _ c.from_residual-in_err-has_version.ensures.0

pub returns-in_err-has_version-clause-opened : goal.returns-in_err-has_version-clause-opened
returns-in_err-has_version-clause-opened g c clean = no_success _ _ c.from_residual-in_err-has_version.ensures.0
