use Rattle.book.specs.Values.{identity_view}
use Rattle.judgement.proofs.Explaining.{subject_is}
use Rattle.judgement.proofs.explanation.subject_in.Goals as goal

pub returns-in-Some : goal.returns-in-Some
returns-in-Some c =
    rw c.in-Some.is
    (subject_is (identity_view c.in-Some.identity.now) c.deref.result.now c.deref.ensures.value c.subject_of.result
    c.subject_of.ensures.found c.subject_of.ensures.only)
