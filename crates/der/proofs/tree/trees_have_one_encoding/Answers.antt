use Rattle.std.proofs.Common.{[], ap, ◌++◌}
use Rattle.der.proofs.ReadingNodes.{encoding_ends}
use Rattle.der.proofs.tree.trees_have_one_encoding.Goals as goal

pub returns : goal.returns
returns c = λ m n p q e. (encoding_ends m n [] [] p.formed q.formed (ap (λ octets. octets ++ []) e)).0
