use Rattle.std.proofs.Common.{◌∙◌, sym, rules, tests}
use Rattle.std.proofs.{lemmas.Iterator.YieldsList-from_slice, lemmas.Iterator.Search.any_from_yields_List}
use Rattle.policy.proofs.Searches.{any_value}
use Rattle.book.specs.{Continuation.holds_all, Values.hold_view}
use Rattle.operations.proofs.continuation.is_closed.Goals as goal

pub returns : goal.returns
returns c =
    any_from_yields_List (λ hold. holds_all (hold_view hold)) _ _ c.any.result c.any.ensures.ran
    (YieldsList-from_slice c.args.held.now cc) (λ x b q k. search (rules, tests))
    ∙ sym (any_value holds_all hold_view c.args.held.now)
