use Rattle.store.proofs.Words.{sym, ◌∙◌}
use Rattle.store.proofs.Migration.{histories_left, migrated_as, refused_as, told_database, told_not_ours}
use Rattle.store.specs.TablesOf.{tables_of}
use Rattle.store.proofs.store.Store.migrate.Goals as goal

pub returns-in-Ok-clause-migrates : goal.returns-in-Ok-clause-migrates
returns-in-Ok-clause-migrates g c = migrated_as _ _ c.in-Ok.ensures.migrates

pub returns-in-Err-clause-migrates : goal.returns-in-Err-clause-migrates
returns-in-Err-clause-migrates g c = refused_as _ _ _ _ c.in-Err.ensures.migrates

pub returns-in-Ok-clause-crash : goal.returns-in-Ok-clause-crash
returns-in-Ok-clause-crash g c = histories_left _ _ _ c.in-Ok.ensures.migrates

pub returns-in-Err-clause-crash : goal.returns-in-Err-clause-crash
returns-in-Err-clause-crash g c = histories_left _ _ _ c.in-Err.ensures.migrates

pub returns-in-Err-clause-not_ours : goal.returns-in-Err-clause-not_ours
returns-in-Err-clause-not_ours g c told clean is_open v b =
    c.in-Err.ensures.not_ours (told_not_ours c.in-Err.fault (sym c.from.ensures ∙ told)) clean is_open v (tables_of b)

pub returns-in-Err-clause-untold : goal.returns-in-Err-clause-untold
returns-in-Err-clause-untold g c told clean =
    c.in-Err.ensures.untold (told_database c.in-Err.fault (sym c.from.ensures ∙ told)) clean
