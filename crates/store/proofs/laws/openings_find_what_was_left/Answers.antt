use Rattle.store.proofs.Stops.{finds_what_is_held}
use Rattle.store.proofs.laws.openings_find_what_was_left.Goals as goal

pub returns : goal.returns
returns g c = finds_what_is_held g.D.Disk c.stored_tables_are_found.ensures
