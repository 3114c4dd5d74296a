use Rattle.tables.proofs.MigrateLemmas.{set_leads}
use Rattle.tables.proofs.migration.set_version.Goals as goal

pub returns-clause-leads : goal.returns-clause-leads
returns-clause-leads g c = set_leads _ _ c.execute.result c.execute.ensures.survives c.execute.ensures.runs
