use Rattle.std.proofs.Common.{[], refl}
use Rattle.cms.proofs.Chains.{alone, found_alone}
use Rattle.cms.proofs.identity.Identity.from_certificate.Goals as goal

pub returns-clause-found : goal.returns-clause-found
returns-clause-found c = found_alone c.args.octets.now c.from_parts.result c.from_parts.ensures.found

pub returns-clause-only : goal.returns-clause-only
returns-clause-only c = λ p is short. c.from_parts.ensures.only p [] is short (alone c.args.octets.now) refl
