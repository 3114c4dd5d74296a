use Rattle.tables.proofs.{CreateLemmas.all_carried, RefusalLemmas.in_the_way, RefusalLemmas.names_free_if}
use Rattle.tables.proofs.creation.make_all.Goals as goal

pub returns-clause-carries : goal.returns-clause-carries
returns-clause-carries g c =
    let e = c.execute_batch.ensures in
    all_carried g.S.Store _ _ _ e.survives e.ran e.kept e.inside

pub returns-clause-taken : goal.returns-clause-taken
returns-clause-taken g c clean = in_the_way g.S.Store _ _ _ (c.execute_batch.ensures.ran clean)

pub returns-clause-unused : goal.returns-clause-unused
returns-clause-unused g c clean = names_free_if g.S.Store _ _ _ (c.execute_batch.ensures.ran clean)
