use Rattle.tables.proofs.Words.{err_from_is_err_and, state, ◌∙◌}
use Rattle.tables.proofs.OpenLemmas.{told_after, unknown_if, unprepared_since}
use Rattle.tables.proofs.{AnswerLemmas.no_answer, UsableLemmas.looks_in_turn}
use Rattle.tables.specs.Versions.{first_columns, second_columns}
use Rattle.tables.specs.declared.version.Version.TheVariants as version
use Rattle.tables.proofs.version.known_version.Goals as goal

pub returns-then-branch-2-clause-known : goal.returns-then-branch-2-clause-known
returns-then-branch-2-clause-known g c clean =
    let old = state g.S.Store c.args.conn.now in
    let mid = state g.S.Store c.understands.new.conn in
    let later = state g.S.Store c.understands-2.new.conn in
    let first = c.in_ok-understands.ensures.told (c.understands-2.ensures.looks.clean clean) in
    let second = told_after _ _ old mid later _ _ first c.if-branch.false (c.in_ok-understands-2.ensures.told clean) in
    (first.0, second.1.1, (second.0, second.1.2.0 c.if-branch-2.true))

pub returns-then-branch-3-clause-known : goal.returns-then-branch-3-clause-known
returns-then-branch-3-clause-known g c clean =
    let old = state g.S.Store c.args.conn.now in
    let mid = state g.S.Store c.understands.new.conn in
    let later = state g.S.Store c.understands-2.new.conn in
    let last = state g.S.Store c.understands-3.new.conn in
    let between = c.understands-3.ensures.looks.clean clean in
    let first = c.in_ok-understands.ensures.told (c.understands-2.ensures.looks.clean between) in
    let second = told_after _ _ old mid later _ _ first c.if-branch.false
    (c.in_ok-understands-2.ensures.told between) in
    let third = told_after _ _ old later last _ _ second.1 c.if-branch-2.false
    (c.in_ok-understands-3.ensures.told clean) in
    (first.0, third.1.1, (second.0, third.0, third.1.2.0 c.if-branch-3.true))

pub returns-clause-known : goal.returns-clause-known
returns-clause-known g c clean =
    let old = state g.S.Store c.args.conn.now in
    let mid = state g.S.Store c.understands.new.conn in
    let later = state g.S.Store c.understands-2.new.conn in
    let last = state g.S.Store c.understands-3.new.conn in
    let between = c.understands-3.ensures.looks.clean clean in
    let first = c.in_ok-understands.ensures.told (c.understands-2.ensures.looks.clean between) in
    let second = told_after _ _ old mid later _ _ first c.if-branch.false
    (c.in_ok-understands-2.ensures.told between) in
    let third = told_after _ _ old later last _ _ second.1 c.if-branch-2.false
    (c.in_ok-understands-3.ensures.told clean) in
    (first.0, third.1.1, (second.0, third.0, unknown_if _ old last _ third.1 c.if-branch-3.false))

pub returns-in_err-understands-clause-unprepared : goal.returns-in_err-understands-clause-unprepared
returns-in_err-understands-clause-unprepared g c clean =
    let failing = err_from_is_err_and c.from_residual.result c.from_residual.ensures.1 in
    rw (failing.1, failing.2) (λ other. (version.Current, c.in_err-understands.ensures.unprepared clean other))

pub returns-in_err-understands-2-clause-unprepared : goal.returns-in_err-understands-2-clause-unprepared
returns-in_err-understands-2-clause-unprepared g c clean =
    let it = c.from_residual-in_err-understands-2 in
    let failing = err_from_is_err_and it.result it.ensures.1 in
    let last = c.in_err-understands-2.ensures in
    let before = last.looks.clean clean in
    let first = c.in_ok-understands.ensures in
    rw (failing.1, failing.2) (λ other. (
      version.Second,
      unprepared_since (state g.S.Store c.args.conn.now) (state g.S.Store c.understands.new.conn)
          (state g.S.Store c.understands-2.new.conn) first.looks.usable before (first.told before).0
          last.looks.usable.counts (first.told before).1 second_columns (last.unprepared clean other),
    ))

pub returns-in_err-understands-3-clause-unprepared : goal.returns-in_err-understands-3-clause-unprepared
returns-in_err-understands-3-clause-unprepared g c clean =
    let it = c.from_residual-in_err-understands-3 in
    let failing = err_from_is_err_and it.result it.ensures.1 in
    let last = c.in_err-understands-3.ensures in
    let between = last.looks.clean clean in
    let second = c.in_ok-understands-2.ensures in
    let first = c.in_ok-understands.ensures in
    let told = first.told (second.looks.clean between) in
    let both = looks_in_turn (state g.S.Store c.args.conn.now) (state g.S.Store c.understands.new.conn)
    (state g.S.Store c.understands-2.new.conn) first.looks second.looks in
    rw (failing.1, failing.2) (λ other. (
      version.First,
      unprepared_since (state g.S.Store c.args.conn.now) (state g.S.Store c.understands-2.new.conn)
          (state g.S.Store c.understands-3.new.conn) both.usable between told.0 last.looks.usable.counts
          ((second.told between).1 ∙ told.1) first_columns (last.unprepared clean other),
    ))

pub returns-in_err-understands-clause-known : goal.returns-in_err-understands-clause-known
returns-in_err-understands-clause-known g c clean = no_answer _ _ c.from_residual.ensures.0

pub returns-in_err-understands-2-clause-known : goal.returns-in_err-understands-2-clause-known
returns-in_err-understands-2-clause-known g c clean = no_answer _ _ c.from_residual-in_err-understands-2.ensures.0

pub returns-in_err-understands-3-clause-known : goal.returns-in_err-understands-3-clause-known
returns-in_err-understands-3-clause-known g c clean = no_answer _ _ c.from_residual-in_err-understands-3.ensures.0
