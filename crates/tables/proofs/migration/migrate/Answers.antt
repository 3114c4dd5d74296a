use Rattle.tables.proofs.MigrateLemmas.{current_migrates, earlier_migrates, earlier_ours, earlier_refused}
use Rattle.tables.proofs.{Words.inl, Words.refl, Words.state, Words.◌≡◌, Words.◌≢◌, MigrateLemmas.refused_migrates}
use Rattle.tables.specs.declared.version.Version.TheVariants as version
use Rattle.tables.proofs.migration.migrate.Goals as goal

pub returns-in-Ok-None-clause-not_ours : goal.returns-in-Ok-None-clause-not_ours
returns-in-Ok-None-clause-not_ours g c told clean is_open v t found =
    let some = c.in-Ok-None.ensures.found clean v t found.0 in
    let none = c.in-Ok-None.field-0-is in
    cc

pub returns-then-is_current-clause-migrates : goal.returns-then-is_current-clause-migrates
returns-then-is_current-clause-migrates g c =
    current_migrates _ _ c.found_version.ensures.looks (λ clean. c.in-Ok-Some.ensures.opened clean)
    (λ clean v t is.
    let some = c.in-Ok-Some.ensures.found clean v t is in
    let found = c.in-Ok-Some.field-0-is in
    let now : c.in-Ok-Some.version ≡ version.Current = c.is_current.ensures.0 c.if-is_current.true in
    cc)

pub returns-in-Ok-clause-migrates : goal.returns-in-Ok-clause-migrates
returns-in-Ok-clause-migrates g c =
    let other : c.in-Ok-Some.version ≢ version.Current =
    λ now. let is = c.is_current.ensures.1 now in let isnt = c.if-is_current.false in cc in
    earlier_migrates c.in-Ok-Some.version other (state g.S.Store c.args.conn.now)
    (state g.S.Store c.found_version.new.conn) (state g.S.Store c.take_on.new.conn) c.found_version.ensures.looks
    (λ clean. c.in-Ok-Some.ensures.opened clean)
    (λ clean v t is.
    let some = c.in-Ok-Some.ensures.found clean v t is in
    let found = c.in-Ok-Some.field-0-is in
    cc) c.take_on.result c.take_on.ensures.commits c.in-Ok.is

pub returns-in-Err-take_on-clause-migrates : goal.returns-in-Err-take_on-clause-migrates
returns-in-Err-take_on-clause-migrates g c =
    let other : c.in-Ok-Some.version ≢ version.Current =
    λ now. let is = c.is_current.ensures.1 now in let isnt = c.if-is_current.false in cc in
    earlier_refused c.in-Ok-Some.version other (state g.S.Store c.args.conn.now)
    (state g.S.Store c.found_version.new.conn) (state g.S.Store c.take_on.new.conn) c.found_version.ensures.looks
    (λ clean. c.in-Ok-Some.ensures.opened clean)
    (λ clean v t is.
    let some = c.in-Ok-Some.ensures.found clean v t is in
    let found = c.in-Ok-Some.field-0-is in
    cc) c.take_on.result c.take_on.ensures.commits c.of-in-Err-take_on.result c.in-Err-take_on.error c.in-Err-take_on.is

pub returns-in-Err-take_on-clause-not_ours : goal.returns-in-Err-take_on-clause-not_ours
returns-in-Err-take_on-clause-not_ours g c told clean is_open v t found =
    let other : c.in-Ok-Some.version ≢ version.Current =
    λ now. let is = c.is_current.ensures.1 now in let isnt = c.if-is_current.false in cc in
    earlier_ours c.in-Ok-Some.version other (state g.S.Store c.args.conn.now)
    (state g.S.Store c.found_version.new.conn) (state g.S.Store c.take_on.new.conn) c.found_version.ensures.looks
    (λ clean. c.in-Ok-Some.ensures.opened clean)
    (λ clean v t is.
    let some = c.in-Ok-Some.ensures.found clean v t is in
    let found = c.in-Ok-Some.field-0-is in
    cc) c.take_on.result c.take_on.ensures.commits c.in-Err-take_on.error c.in-Err-take_on.is
    c.take_on.ensures.taken (c.of-in-Err-take_on.ensures.taken refl told) clean is_open v t found

pub returns-in-Err-clause-untold : goal.returns-in-Err-clause-untold
returns-in-Err-clause-untold g c told clean = inl (c.in-Err.ensures.untold clean (c.of.ensures.memory told))

pub returns-in-Ok-None-clause-migrates : goal.returns-in-Ok-None-clause-migrates
returns-in-Ok-None-clause-migrates g c = refused_migrates _ _ _ c.found_version.ensures.looks

pub returns-in-Err-clause-migrates : goal.returns-in-Err-clause-migrates
returns-in-Err-clause-migrates g c = refused_migrates _ _ _ c.found_version.ensures.looks
