use Rattle.std.proofs.Common.{◌∙◌, ◌<◌, ◌≤◌, ◌≡◌, ◌∷◌, ◌++◌, [], ap, arith, length, refl, rules, sym}
use Rattle.std.proofs.lemmas.Bool.{false≢true}
use Rattle.connections.specs.{Places.most_places, WaitingConnection.intake, WaitingConnection.place_of}
use Rattle.connections.specs.{WaitingConnection.places_of}
use Rattle.connections.proofs.PlacesLemmas.{added_then, fails_refused, none_added, none_came, one_came, short_behind}
use Rattle.connections.proofs.PlacesLemmas.{waits_added}
use Rattle.connections.proofs.reactor.Reactor.take.Goals as goal

pub taking-init : goal.taking-init
taking-init g c = (none_added _ _ _ _, refl)

pub returns-in-Failed-clause-failed : goal.returns-in-Failed-clause-failed
returns-in-Failed-clause-failed g c = λ is.
    fails_refused _ _ _ _ _ _ _ (intake c.take_one.new.self.acceptor c.take_one.new.self.places)
    (waits_added _ _ _ _ _ _ _ c.taking.invariant.0)
    c.in-Failed.ensures.taken c.take_one.ensures.places

pub returns-in-Nothing-clause-added : goal.returns-in-Nothing-clause-added
returns-in-Nothing-clause-added g c = λ is.
    let mid = intake c.taking.self.acceptor c.taking.self.places in
    let new = intake c.take_one.new.self.acceptor c.take_one.new.self.places in (
      added_then _ _ _ _ _ _ c.taking.invariant.0
          (none_came _ _ _ mid new c.in-Nothing.ensures.taken c.take_one.ensures.places),
      λ short. absurd (false≢true (sym (c.take_one.ensures.short ∙ c.taking.invariant.1) ∙ short)),
    )

pub returns-in-Short-clause-added : goal.returns-in-Short-clause-added
returns-in-Short-clause-added g c = λ is.
    let behind = short_behind _ _ _ _ _ (intake c.take_one.new.self.acceptor c.take_one.new.self.places)
    c.taking.invariant.0 c.in-Short.ensures.taken c.take_one.ensures.places in (behind.0, λ short. behind.1)

pub returns-else-self-clause-added : goal.returns-else-self-clause-added
returns-else-self-clause-added g c = λ is.
    (c.taking.invariant.0, λ short. absurd (false≢true (sym c.taking.invariant.1 ∙ short)))

pub returns-after-taking-clause-added : goal.returns-after-taking-clause-added
returns-after-taking-clause-added g c = λ is.
    (c.taking.invariant.0, λ short. absurd (false≢true (sym c.taking.invariant.1 ∙ short)))

pub taking-preserved : goal.taking-preserved
taking-preserved g c =
    let mid = intake c.taking.self.acceptor c.taking.self.places in
    let new = intake c.take_one.new.self.acceptor c.push.new.self in
    let one = place_of c.in-One.one in
    let behind : places_of c.push.new.self ≡ mid.places ++ (one ∷ []) =
    c.push.ensures ∙ ap (λ all. all ++ (one ∷ [])) c.take_one.ensures.places in
    let room : c.min-room.result ≤ c.args.most = search rules in
    let bound : c.min-room.result ≤ 256 = search rules in
    let fewer : length mid.places < c.args.most = omega (arith, c.taking-test.true, c.len.ensures, room) in
    let few : length mid.places < most_places = omega (arith, c.taking-test.true, c.len.ensures, bound) in (
      added_then _ _ _ _ _ _ c.taking.invariant.0
          (one_came _ _ _ mid new one c.in-One.ensures.taken.0 c.in-One.ensures.taken.1 behind fewer few),
      c.take_one.ensures.short ∙ c.taking.invariant.1,
    )
