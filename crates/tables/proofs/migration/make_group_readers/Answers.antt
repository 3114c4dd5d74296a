use Rattle.tables.proofs.MigrateLemmas.{next_leads, second_next}
use Rattle.tables.proofs.migration.make_group_readers.Goals as goal

pub returns-clause-leads : goal.returns-clause-leads
returns-clause-leads g c = next_leads second_next _ _ c.execute.result c.execute.ensures.survives c.execute.ensures.runs
