-- The lines of those before.
use Rattle.std.proofs.Common.{◌≡◌, take, map}
use Rattle.std.specs.{List.flat_map, Prelude.string_bytes}
use Rattle.policy.specs.View.{algorithm_view}
use Rattle.service.specs.Accounts.{algorithm_line}
use Rattle.service.proofs.account.algorithm_lines.Given as goal

abbrev pub invariant-loop-algorithm : goal.invariant-loop-algorithm
invariant-loop-algorithm l =
    l.lines.items
    ≡ flat_map (algorithm_line (map string_bytes l.names)) (map algorithm_view (take l.algorithm-index l.algorithms))
