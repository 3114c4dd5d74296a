use Rattle.judgement.proofs.Judging.{judged_given}
use Rattle.judgement.specs.Given.{account_of}
use Rattle.judgement.proofs.stamps.judgements_say_what_is_given.Goals as goal

pub returns : goal.returns
returns c = record {
  given = λ e before stamp found. judged_given e before stamp found
      (λ r facts plan asked short allowed. c.verdicts_are_of_octets.ensures.allowed e.file (account_of e stamp)
      stamp.request r facts plan asked short allowed);
}
