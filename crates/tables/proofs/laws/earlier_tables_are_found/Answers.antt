use Rattle.tables.proofs.SchemaLemmas.{earlier_of_stored}
use Rattle.tables.proofs.laws.earlier_tables_are_found.Goals as goal

pub returns : goal.returns
returns c v t d sound stored = earlier_of_stored v t d sound stored
