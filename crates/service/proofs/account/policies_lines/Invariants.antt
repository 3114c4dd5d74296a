-- The lines of the policies before.
use Rattle.std.proofs.Common.{◌≡◌, take, map}
use Rattle.std.specs.{List.flat_map, Prelude.string_bytes}
use Rattle.policy.specs.View.{policy_view}
use Rattle.service.specs.Accounts.{named_policy_lines}
use Rattle.service.proofs.account.policies_lines.Given as goal

abbrev pub invariant-loop-name : goal.invariant-loop-name
invariant-loop-name l =
    l.lines.items ≡ flat_map (named_policy_lines (policy_view l.file)) (map string_bytes (take l.name-index l.names))
