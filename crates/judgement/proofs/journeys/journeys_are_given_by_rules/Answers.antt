use Rattle.judgement.proofs.AlongJourneys.{journeys_given}
use Rattle.judgement.proofs.journeys.journeys_are_given_by_rules.Goals as goal

pub returns : goal.returns
returns c =
    let promises = c.journeys_keep_their_promises.ensures in
    journeys_given (record { answers = c.requests_have_one_reading.ensures.answer; tells = c.identities_tell_who_signed.ensures })
    promises.open_by promises.journey
