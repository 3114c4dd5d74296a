use Rattle.tables.proofs.{Words.refl, CellLemmas.text_more, CellLemmas.value_more, InsertLemmas.adds_deposit}
use Rattle.tables.proofs.deposits.put_deposit.Goals as goal

pub returns-clause-carries : goal.returns-clause-carries
returns-clause-carries g c =
    adds_deposit _ _ _ _ c.execute.ensures.survives _
    (value_more _ _ c.in_ok-serial.ensures.value
    (text_more c.as_bytes.ensures.value (text_more c.as_bytes-2.ensures.value refl))) c.execute.ensures.runs
