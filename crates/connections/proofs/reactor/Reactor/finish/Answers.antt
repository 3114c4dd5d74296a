use Rattle.std.proofs.Common.{◌∙◌, ◌∷◌, ◌++◌, [], length, arith, refl, subst, sym}
use Rattle.std.proofs.lemmas.List.{length-append}
use Rattle.connections.specs.{Acceptor.AreTold, Acceptor.IsWait, declared.acceptor.Accepted.TheVariants.Nothing}
use Rattle.connections.proofs.PlacesLemmas.{all_then, told_then}
use Rattle.connections.proofs.reactor.Reactor.finish.Goals as goal

pub loop-round-preserved : goal.loop-round-preserved
loop-round-preserved g c =
    let start = c.args.self.now.acceptor in
    let mid = c.close_now.new.self.acceptor in
    let new = c.wait.new.self.acceptor in
    let waited = c.loop-round.invariant.1.0 in
    let waits = c.loop-round.invariant.1.1 in
    let often = c.loop-round.invariant.1.2 in
    let told = c.loop-round.invariant.1.3 in
    let all : AreTold g.A.Acceptor.tells start waited mid =
    subst (λ a. AreTold g.A.Acceptor.tells start waited a) (sym c.close_now.ensures.acceptor) told in (
      c.wait.ensures.places ∙ (c.close_now.ensures.places ∙ c.loop-round.invariant.0),
      (
        waited ++ (Nothing ∷ []),
        all_then IsWait waited (Nothing ∷ []) waits (tt, tt),
        omega (arith, often, length-append waited (Nothing ∷ [])),
        told_then g.A.Acceptor.tells start mid new waited (Nothing ∷ []) all (new, (c.in-Ok.ensures.told, refl)),
      ),
    )
