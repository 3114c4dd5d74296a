use Rattle.std.proofs.{Common.Some, Common.ap, lemmas.Option.none-some, lemmas.Option.same_Some}
use Rattle.gentime.proofs.Pairs.{none_stated, some_stated, states_with, time_with-pairs_of}
use Rattle.gentime.proofs.components.Components.read.Goals as goal

pub returns-in_err-century-clause-only : goal.returns-in_err-century-clause-only
returns-in_err-century-clause-only c = λ time s.
    absurd (none_stated _ time (rw c.in_err-century.was at c.pairs.ensures) s)

pub returns-in_err-fraction-clause-only : goal.returns-in_err-fraction-clause-only
returns-in_err-fraction-clause-only c = λ time s.
    let rest = some_stated _ _ _ time (rw c.in_ok-century.was at c.pairs.ensures) s in
    absurd (none-some _ (c.in_err-fraction.ensures.only time.fraction s.formed.fraction rest.1))

pub returns-clause-stated : goal.returns-clause-stated
returns-clause-stated c =
    rw (c.from.ensures, c.from-2.ensures) (states_with _ _ _ _ (rw c.in_ok-century.was at c.pairs.ensures)
    c.in_ok-fraction.ensures.stated.0 c.in_ok-fraction.ensures.stated.1)

pub returns-clause-only : goal.returns-clause-only
returns-clause-only c = λ time s.
    let rest = some_stated _ _ _ time (rw c.in_ok-century.was at c.pairs.ensures) s in
    rw (c.from.ensures, c.from-2.ensures) (ap Some
    (time_with-pairs_of _ _ time rest.0 (same_Some _ _
    (c.in_ok-fraction.ensures.only time.fraction s.formed.fraction rest.1))))
