use Rattle.tables.proofs.{Words.refl, CellLemmas.text_more, CellLemmas.value_more, InsertLemmas.adds_tally}
use Rattle.tables.proofs.tallies.first_tally.Goals as goal

pub returns-clause-carries : goal.returns-clause-carries
returns-clause-carries g c =
    adds_tally c.args.account.now c.args.day _ _ _ c.execute.ensures.survives _
    (text_more c.as_bytes.ensures.value (value_more _ _ c.in_ok-day.ensures.value refl)) c.execute.ensures.runs
