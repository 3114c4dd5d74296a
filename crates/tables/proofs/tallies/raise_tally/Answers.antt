use Rattle.tables.proofs.CellLemmas.{text_more, value_more}
use Rattle.tables.proofs.{Words.refl, SealLemmas.raise_counts, SealLemmas.raises}
use Rattle.tables.proofs.tallies.raise_tally.Goals as goal

pub returns-clause-carries : goal.returns-clause-carries
returns-clause-carries g c =
    raises _ _ _ _ _ c.execute.ensures.survives _
    (text_more c.as_bytes.ensures.value (value_more _ _ c.in_ok-day.ensures.value refl)) c.execute.ensures.runs

pub returns-clause-counts : goal.returns-clause-counts
returns-clause-counts g c clean inside =
    raise_counts _ _ _ _ _ _ (text_more c.as_bytes.ensures.value (value_more _ _ c.in_ok-day.ensures.value refl))
    (c.execute.ensures.runs clean inside)
