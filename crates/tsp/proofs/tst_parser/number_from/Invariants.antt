use Rattle.std.{proofs.Common.◌≡◌, proofs.Common.take, specs.Int.Digits.number_from_digits}
use Rattle.tsp.proofs.tst_parser.number_from.Given as goal

abbrev pub invariant-loop-octet : goal.invariant-loop-octet
invariant-loop-octet l = l.number ≡ number_from_digits 256 (take l.octet-index l.octets)
