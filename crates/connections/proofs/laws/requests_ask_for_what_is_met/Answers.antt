use Rattle.connections.proofs.MetLemmas.{request_met}
use Rattle.connections.proofs.laws.requests_ask_for_what_is_met.Goals as goal

pub returns : goal.returns
returns c = λ file reading before left command is b. request_met file reading before left command is b
