use Rattle.tables.proofs.CountLemmas.{counted_first, counted_more}
use Rattle.tables.proofs.tallies.count_stamp.Goals as goal

pub returns-then-counted-eq0-clause-carries : goal.returns-then-counted-eq0-clause-carries
returns-then-counted-eq0-clause-carries g c =
    let raised = c.in_ok-counted.ensures in
    counted_first _ _ _ _ _ raised.carries raised.counts _ _ c.if-counted-eq0.true c.first_tally.ensures.carries

pub returns-else-counted-eq0-clause-carries : goal.returns-else-counted-eq0-clause-carries
returns-else-counted-eq0-clause-carries g c =
    let raised = c.in_ok-counted.ensures in
    counted_more _ _ _ _ _ raised.carries raised.counts c.if-counted-eq0.false
