-- The identifiers before, and those that are left, are all.
use Rattle.std.proofs.Common.{◌≡◌, ◌++◌}
use Rattle.std.specs.List.{flat_map}
use Rattle.judgement.specs.Explanation.{extension_text}
use Rattle.judgement.proofs.explanation.add_identifiers.Given as goal

abbrev pub invariant-loop-extension : goal.invariant-loop-extension
invariant-loop-extension l =
    l.lines.items ++ flat_map extension_text l.extension-iterator
    ≡ l.fn.lines.items ++ flat_map extension_text l.fn.extensions
