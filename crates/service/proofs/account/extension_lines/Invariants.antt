-- The lines of those before.
use Rattle.std.proofs.Common.{◌≡◌, take, map}
use Rattle.std.specs.{List.flat_map, Prelude.string_bytes}
use Rattle.policy.specs.View.{extension_view}
use Rattle.service.specs.Accounts.{extension_line}
use Rattle.service.proofs.account.extension_lines.Given as goal

abbrev pub invariant-loop-extension : goal.invariant-loop-extension
invariant-loop-extension l =
    l.lines.items
    ≡ flat_map (extension_line (map string_bytes l.names)) (map extension_view (take l.extension-index l.extensions))
