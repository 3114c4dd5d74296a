use Rattle.std.{proofs.Common.◌≡◌, specs.Option.is_some}
use Rattle.der.specs.DataValueView.{values_view}
use Rattle.tsp.{specs.Parser.extensions_of, proofs.ExtensionRuns.count_of}
use Rattle.tsp.proofs.parser.are_extensions.Given as goal

-- all are extensions where those that are left are
abbrev pub invariant-loop-value : goal.invariant-loop-value
invariant-loop-value l = is_some (extensions_of l.may_state_false (values_view l.members))
    ≡ is_some (extensions_of l.may_state_false (values_view l.fn.members))

abbrev pub decreases-loop-value : goal.decreases-loop-value
decreases-loop-value l = count_of (values_view l.members)
