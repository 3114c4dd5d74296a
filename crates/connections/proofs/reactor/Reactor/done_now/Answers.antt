use Rattle.std.proofs.Common.{refl}
use Rattle.connections.specs.{Places.AreWaitedFor, WaitingConnection.intake}
use Rattle.connections.proofs.PlacesLemmas.{comes_done, waits_added, waits_none, waits_same, waits_then}
use Rattle.connections.proofs.reactor.Reactor.done_now.Goals as goal

pub returns-in_default : goal.returns-in_default
returns-in_default g c = waits_none _ _ _ _ _ _

pub returns-in-Some : goal.returns-in-Some
returns-in-Some g c =
    comes_done _ _ _ _ _ _ c.in-Ok.ensures _ _ (intake c.take.new.self.acceptor c.take_done.new.self)
    (waits_added _ _ _ _ _ _ _ (c.take.ensures.added c.if-take.false).0) refl c.in-Some.done c.in-Some.ensures

pub returns-then-give_up : goal.returns-then-give_up
returns-then-give_up g c =
    let added = c.take.ensures.added c.if-take.false in
    record {
      last = intake c.take.new.self.acceptor c.take_done.new.self;
      heard = record {
        between = intake c.take.new.self.acceptor c.take.new.self.places;
        added = added.0;
        read = c.in_default-take_done.ensures;
        same = refl;
      };
      cause = c.give_up.ensures.failed c.if-give_up.true added.0.told added.1;
    }

pub returns : goal.returns
returns g c =
    let old = intake c.args.self.now.acceptor c.args.self.now.places in
    let read = intake c.take.new.self.acceptor c.take_done.new.self in
    let waited : AreWaitedFor g.A.Acceptor.tells g.R.Timer.shows g.A.Stream.Read.remaining
    g.A.Stream.Connection.fails c.args.most old read = record {
      between = intake c.take.new.self.acceptor c.take.new.self.places;
      added = (c.take.ensures.added c.if-take.false).0;
      read = c.in_default-take_done.ensures;
      same = refl;
    } in
    waits_same _ _ _ _ _ _ _ (intake c.close_some.new.self.acceptor c.close_some.new.self.places)
    (waits_then _ _ _ _ _ _ _ _ waited (waits_added _ _ _ _ _ _ _ (c.give_up.ensures.added c.if-give_up.false)))
    c.close_some.ensures.acceptor c.close_some.ensures.places
