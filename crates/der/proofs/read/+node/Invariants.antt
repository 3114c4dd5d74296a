use Rattle.std.proofs.Common.{◌≡◌, ◌≤◌, ◌+◌, ◌-◌, ◌*◌, length, map}
use Rattle.der.{specs.Tree.view, specs.FirstFault.node_at, specs.FirstFault.nodes_with, proofs.ReadingRuns.after_found}
use Rattle.der.proofs.read.+node.Given as goal

abbrev pub decreases-read_node : goal.decreases-read_node
decreases-read_node l = 2 * l.levels

abbrev pub decreases-read_nodes : goal.decreases-read_nodes
decreases-read_nodes l = 2 * l.levels + 1

abbrev pub invariant-read_nodes-loop-rest : goal.invariant-read_nodes-loop-rest
invariant-read_nodes-loop-rest l = record {
  same : after_found (map view l.found.items)
      (nodes_with (node_at l.levels) (length l.bytes - length l.found.items) l.rest)
      ≡ nodes_with (node_at l.levels) (length l.bytes) l.bytes;
  room : length l.rest + length l.found.items ≤ length l.bytes;
}

abbrev pub decreases-read_nodes-loop-rest : goal.decreases-read_nodes-loop-rest
decreases-read_nodes-loop-rest l = length l.rest
