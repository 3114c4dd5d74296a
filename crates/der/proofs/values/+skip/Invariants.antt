use Rattle.std.proofs.Common.{◌≡◌, ◌+◌, ◌*◌, length}
use Rattle.der.{specs.Node.AreOctets, specs.FirstFault.values_at, proofs.ValuesRead.forget}
use Rattle.der.proofs.values.+skip.Given as goal

abbrev pub decreases-skip_values : goal.decreases-skip_values
decreases-skip_values l = 2 * l.levels + 1

abbrev pub decreases-skip_value : goal.decreases-skip_value
decreases-skip_value l = 2 * l.levels

abbrev pub invariant-skip_values-loop-rest : goal.invariant-skip_values-loop-rest
invariant-skip_values-loop-rest l = record {
  same : forget (values_at l.levels l.rest) ≡ forget (values_at l.levels l.octets);
  bytes : AreOctets l.rest;
}

abbrev pub decreases-skip_values-loop-rest : goal.decreases-skip_values-loop-rest
decreases-skip_values-loop-rest l = length l.rest
