use Rattle.service.proofs.StampLemmas.{by_one_key, by_two_keys}
use Rattle.service.proofs.request.Request.asks_stamp.Goals as goal

pub returns-then-shows_keys : goal.returns-then-shows_keys
returns-then-shows_keys c = λ file reading.
    by_two_keys file reading c.args.self.now c.in-Some.head c.in-Some.field-0-1 c.in-Some.ensures.due
    (c.shows_keys.ensures.twice c.if-shows_keys.true)

pub returns : goal.returns
returns c = λ file reading.
    by_one_key file reading c.args.self.now c.in-Some.head c.in-Some.field-0-1 c.in-Some.ensures.due
    (c.shows_keys.ensures.once c.if-shows_keys.false)
