use Rattle.desk.proofs.stamps.Batches.{batch_stops}
use Rattle.desk.proofs.laws.batches_stop_as_runs.Goals as goal

pub returns : goal.returns
returns c s asked os es b left w sound some have stop =
    let law = c.histories_show_the_same.ensures in
    batch_stops (record { apart = law.sealed; more = law.more }) s asked os es b left w sound some have stop
