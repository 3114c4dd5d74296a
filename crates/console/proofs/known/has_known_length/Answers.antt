use Rattle.std.proofs.Common.{sym, ◌∙◌, refl, eqb-true, eq-eqb, length}
use Rattle.console.specs.Known.{algorithm}
use Rattle.console.proofs.Algorithms.{contains_value, each_length, none_contained}
use Rattle.console.proofs.known.has_known_length.Goals as goal

pub returns-in-Some : goal.returns-in-Some
returns-in-Some c =
    let a = c.in-Some.algorithm in
    let content = c.args.identifier.now in
    let n = length c.args.hash.now in (
      λ t. each_length content n a c.in-Some.ensures.found (eqb-true n _ t ∙ c.hash_length.ensures.value),
      λ each. eq-eqb n _ (each (algorithm a) (contains_value a) c.in-Some.ensures.found
          ∙ sym c.hash_length.ensures.value),
    )

pub returns-in-None : goal.returns-in-None
returns-in-None c =
    (λ _ v h e. absurd (none_contained c.args.identifier.now (c.in-None.ensures.none refl) v h e), λ _. refl)
