use Rattle.std.proofs.Common.{ap, refl}
use Rattle.connections.specs.WaitingConnection.{intake, place_of}
use Rattle.connections.proofs.PlacesLemmas.{waits_none}
use Rattle.connections.proofs.reactor.ReactorRequestSource.next_now.Goals as goal

pub returns-in-Some : goal.returns-in-Some
returns-in-Some g c =
    let old = intake c.args.self.now.acceptor c.args.self.now.places in
    record {
      last = old;
      heard = waits_none _ _ _ _ _ _;
      one = place_of c.in-Some.field-0;
      given = c.in-Some.ensures.given;
      same = c.in-Some.ensures.same;
      came = refl;
      through = ap (λ peer. peer.stream) c.new.ensures.peer;
    }
