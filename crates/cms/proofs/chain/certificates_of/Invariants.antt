use Rattle.std.proofs.Common.{length, map}
use Rattle.cms.proofs.Chains.{HaveTaken}
use Rattle.cms.proofs.chain.certificates_of.Given as goal

-- those so far go with the signer's, and the rest of the chain is left
abbrev pub invariant-loop-rest : goal.invariant-loop-rest
invariant-loop-rest l = HaveTaken l.signer l.chain (map (λ o. o.now) l.certificates.items) l.rest

abbrev pub decreases-loop-rest : goal.decreases-loop-rest
decreases-loop-rest l = length l.rest
