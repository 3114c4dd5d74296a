use Rattle.store.proofs.{Words.sym, Words.◌∙◌, Migration.told_database, Migration.told_not_ours}
use Rattle.store.specs.TablesOf.{tables_of}
use Rattle.store.proofs.store.Store.adopt.Goals as goal

pub returns-in-Err-clause-foreign : goal.returns-in-Err-clause-foreign
returns-in-Err-clause-foreign g c told clean =
    c.in-Err.ensures.foreign (told_not_ours c.in-Err.fault (sym c.from.ensures ∙ told)) clean

pub returns-in-Ok-clause-stands : goal.returns-in-Ok-clause-stands
returns-in-Ok-clause-stands g c b sound found =
    record { sound = sound; kept = c.in-Ok.ensures.keeps (tables_of b) found }

pub returns-in-Err-clause-not_ours : goal.returns-in-Err-clause-not_ours
returns-in-Err-clause-not_ours g c told clean b =
    c.in-Err.ensures.not_ours (told_not_ours c.in-Err.fault (sym c.from.ensures ∙ told)) clean (tables_of b)

pub returns-in-Err-clause-untold : goal.returns-in-Err-clause-untold
returns-in-Err-clause-untold g c told clean =
    c.in-Err.ensures.untold (told_database c.in-Err.fault (sym c.from.ensures ∙ told)) clean
