use Rattle.std.proofs.Common.{◌∷◌, [], length, arith, ap, refl, subst}
use Rattle.std.proofs.lemmas.List.{length-append}
use Rattle.std.specs.Time.{instant_nanos}
use Rattle.connections.specs.{Places.GivesWay, Places.crowded, Places.short, WaitingConnection.intake}
use Rattle.connections.specs.{WaitingConnection.place_of}
use Rattle.connections.proofs.PlacesLemmas.{given_up, given_way, none_added, none_came, short_behind}
use Rattle.connections.proofs.reactor.Reactor.give_up.Goals as goal

pub returns-then-not-is_crowded-clause-added : goal.returns-then-not-is_crowded-clause-added
returns-then-not-is_crowded-clause-added g c = λ is. none_added _ _ _ _

pub returns-in_default-clause-added : goal.returns-in_default-clause-added
returns-in_default-clause-added g c = λ is. none_added _ _ _ _

pub returns-in_default-2-clause-added : goal.returns-in_default-2-clause-added
returns-in_default-2-clause-added g c = λ is. none_added _ _ _ _

pub returns-then-self-clause-failed : goal.returns-then-self-clause-failed
returns-then-self-clause-failed g c = λ is told was.
    short (instant_nanos c.args.now) c.requires.shown (was c.if-self.true)
    (given_up _ _ _ _ c.remove.ensures (c.in-Some.ensures (c.is_zero.ensures.0 c.if-is_zero.true))) refl

pub returns-in-One-clause-failed : goal.returns-in-One-clause-failed
returns-in-One-clause-failed g c = λ is told was.
    let old = intake c.args.self.now.acceptor c.args.self.now.places in
    let new = intake c.take_one.new.self.acceptor c.replace_first.new.self in
    let way : GivesWay (place_of c.in-One.one) old.places new.places =
    subst (λ all. GivesWay (place_of c.in-One.one) all new.places) c.take_one.ensures.places
    c.replace_first.ensures in
    let full = c.is_crowded.ensures.full c.if-not-is_crowded.false c.if-self.false in
    crowded (instant_nanos c.args.now) c.requires.shown full way.1
    (given_up _ _ _ _ way.2 (c.in-Some.ensures (c.is_zero.ensures.0 c.if-is_zero.true)))
    (given_way _ _ _ old new (place_of c.in-One.one) way
    c.in-One.ensures.taken.0 c.in-One.ensures.taken.1 full
    (c.is_crowded.ensures.few c.if-not-is_crowded.false c.if-self.false))
    (omega (arith, ap length way.3, length-append way.1 (place_of c.in-One.one ∷ [])))

pub returns-in-Nothing-clause-added : goal.returns-in-Nothing-clause-added
returns-in-Nothing-clause-added g c = λ is.
    none_came _ _ _ (intake c.args.self.now.acceptor c.args.self.now.places)
    (intake c.take_one.new.self.acceptor c.take_one.new.self.places) c.in-Nothing.ensures.taken
    c.take_one.ensures.places

pub returns-in-Short-clause-added : goal.returns-in-Short-clause-added
returns-in-Short-clause-added g c = λ is.
    (short_behind _ _ _ _ (intake c.args.self.now.acceptor c.args.self.now.places)
    (intake c.take_one.new.self.acceptor c.take_one.new.self.places) (none_added _ _ _ _) c.in-Short.ensures.taken
    c.take_one.ensures.places).0
