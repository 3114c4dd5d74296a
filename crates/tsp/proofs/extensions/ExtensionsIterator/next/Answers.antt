use Rattle.std.proofs.Common.{length, refl, sym, ap, ◌∙◌, rules}
use Rattle.der.specs.DataValueView.{value_view, values_view}
use Rattle.tsp.specs.ExtensionsInPlace.{extensions_in}
use Rattle.tsp.proofs.ExtensionRuns.{none_left, extensions_step, first_by}
use Rattle.tsp.proofs.extensions.ExtensionsIterator.next.Goals as goal

-- nothing is left
pub returns-in_err-next-clause-steps : goal.returns-in_err-next-clause-steps
returns-in_err-next-clause-steps c =
    let none = none_left (values_view c.self.inside.members) (sym c.in_err-next.ensures.first) in
    rw c.from_residual.ensures (
      sym c.self.view_is
          ∙ none,
      ap (λ ms. extensions_in (values_view ms)) (c.in_err-next.ensures.none refl) ∙ none,
    )

pub invariant_of-self-2 : goal.invariant_of-self-2
invariant_of-self-2 c =
    (extensions_step (values_view c.self.inside.members) (values_view c.next.new.self)
    (value_view c.in_ok-next.field-0) c.self.invariant c.in_ok-next.ensures.first).others

-- an extension is left
pub returns-clause-steps : goal.returns-clause-steps
returns-clause-steps c =
    let step = extensions_step (values_view c.self.inside.members) (values_view c.next.new.self)
    (value_view c.in_ok-next.field-0) c.self.invariant c.in_ok-next.ensures.first in
    first_by c.args.self.now (extensions_in (values_view c.next.new.self)) step.value c.extension_from.result
    (c.extension_from.ensures ∙ step.read) (sym c.self.view_is ∙ step.all)

pub returns-clause-goes : goal.returns-clause-goes
returns-clause-goes c =
    let step = extensions_step (values_view c.self.inside.members) (values_view c.next.new.self)
    (value_view c.in_ok-next.field-0) c.self.invariant c.in_ok-next.ensures.first in
    let shorter = ap length (sym c.self.view_is ∙ step.all) in
    search rules
