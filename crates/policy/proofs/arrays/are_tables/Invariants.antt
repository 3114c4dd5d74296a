use Rattle.std.proofs.Common.{◌≡◌, drop}
use Rattle.toml.specs.View.{items_view}
use Rattle.policy.specs.Kinds.{are_tables}
use Rattle.policy.proofs.arrays.are_tables.Given as goal

-- those left are tables where all are
abbrev pub invariant-loop-value : goal.invariant-loop-value
invariant-loop-value l = are_tables (items_view (drop l.value-index l.values)) ≡ are_tables (items_view l.values)
