use Rattle.tables.proofs.{Words.refl, CellLemmas.value_more, SealLemmas.seals}
use Rattle.tables.proofs.stamps.set_token.Goals as goal

pub returns-clause-carries : goal.returns-clause-carries
returns-clause-carries g c =
    seals _ _ _ _ _ c.execute.ensures.survives _ (value_more _ _ c.in_ok-serial.ensures.value refl)
    c.execute.ensures.runs
