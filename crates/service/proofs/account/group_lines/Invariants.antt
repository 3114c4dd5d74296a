-- The lines of the groups before.
use Rattle.std.proofs.Common.{◌≡◌, take, map}
use Rattle.std.specs.List.{flat_map}
use Rattle.service.specs.Accounts.{group_line}
use Rattle.service.proofs.account.group_lines.Given as goal

abbrev pub invariant-loop-name : goal.invariant-loop-name
invariant-loop-name l = l.lines.items ≡ flat_map group_line (map (λ name. name.now) (take l.name-index l.names))
