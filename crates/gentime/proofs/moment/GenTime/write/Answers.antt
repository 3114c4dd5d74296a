use Rattle.gentime.proofs.Texts.{spelling_short}
use Rattle.gentime.proofs.moment.GenTime.write.Goals as goal

pub returns-clause-length : goal.returns-clause-length
returns-clause-length c =
    rw (c.in_ok-spell.ensures, c.of-parts.ensures.parts) (spelling_short c.rounded.inside.micros)
