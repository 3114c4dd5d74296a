use Rattle.connections.specs.WaitingConnection.{intake}
use Rattle.connections.proofs.PlacesLemmas.{fails_refused, round_told}
use Rattle.connections.proofs.reactor.Reactor.next_done.Goals as goal

pub returns-in-Ok : goal.returns-in-Ok
returns-in-Ok g c =
    round_told _ _ _ _ _ _ _ (intake c.wait.new.self.acceptor c.wait.new.self.places) c.in_default.ensures
    c.in-Ok.ensures.told c.in-Ok.ensures.places

pub returns-in-Err : goal.returns-in-Err
returns-in-Err g c =
    fails_refused _ _ _ _ _ _ _ (intake c.wait.new.self.acceptor c.wait.new.self.places) c.in_default.ensures
    c.in-Err.ensures.told c.in-Err.ensures.places
