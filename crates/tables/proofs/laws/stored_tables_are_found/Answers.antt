use Rattle.tables.proofs.SchemaLemmas.{database_of_stored}
use Rattle.tables.proofs.laws.stored_tables_are_found.Goals as goal

pub returns : goal.returns
returns c t d sound stored = database_of_stored t d sound stored
