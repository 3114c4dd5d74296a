use Rattle.desk.proofs.stamps.Batches.{batch_runs, batch_stays_sound, batch_texts}
use Rattle.desk.proofs.laws.batches_are_runs.Goals as goal

pub returns-clause-run : goal.returns-clause-run
returns-clause-run g c s asked os es b x y sound have moves =
    let law = c.histories_show_the_same.ensures in
    batch_runs g.S.Signer.signs (record { apart = law.sealed; more = law.more }) s asked os es b x y sound have moves

pub returns-clause-sound : goal.returns-clause-sound
returns-clause-sound g c s asked os es b sound have =
    let law = c.histories_show_the_same.ensures in
    batch_stays_sound (record { apart = law.sealed; more = law.more }) s asked os es b sound have

pub returns-clause-texts : goal.returns-clause-texts
returns-clause-texts g c s asked os es b have = batch_texts s asked os es b have
