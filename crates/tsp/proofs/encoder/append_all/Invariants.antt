use Rattle.std.proofs.Common.{◌≡◌, [], ◌++◌}
use Rattle.der.specs.{Node.encodings, Node.AreFormed, Tree.nodes}
use Rattle.tsp.specs.Request.{extension_nodes}
use Rattle.tsp.proofs.encoder.append_all.Given as goal

-- what was written and what is left are all, and what is left is formed
abbrev pub invariant-loop-item : goal.invariant-loop-item
invariant-loop-item l =
    (goal.iterator-loop-item).can_next l.item-iterator ×
    (goal.iterator-loop-item).is_finite l.item-iterator ×
    (l.writer ++ encodings (nodes (extension_nodes [] l.item-iterator)) ≡ l.initial.writer
    ++ encodings (nodes (extension_nodes [] l.fn.extensions)))
    × AreFormed (nodes (extension_nodes [] l.item-iterator))
