use Rattle.std.proofs.Common.{arith}
use Rattle.der.proofs.ReadingNodes.{encoding_ends}
use Rattle.der.proofs.EncodingBounds.{AreOctets-encoding, encoding_at_least, encoding_at_most}
use Rattle.der.proofs.tree.encodings_are_bounded.Goals as goal

pub returns : goal.returns
returns c = record {
  octets = AreOctets-encoding;
  at_least = λ n. omega (arith, encoding_at_least n);
  at_most = encoding_at_most;
  ends = encoding_ends;
}
