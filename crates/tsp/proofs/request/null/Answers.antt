use Rattle.std.proofs.Common.{[], refl, arith}
use Rattle.der.specs.Node.{primitive, IsLawful, length_octets}
use Rattle.tsp.proofs.request.null.Goals as goal

null_is_lawful : IsLawful (primitive 5 [])
null_is_lawful = record { formed = ((omega arith, omega arith), refl, tt, omega arith); depth = omega arith }

pub unreachable-requires : goal.unreachable-requires
unfolding length_octets
unreachable-requires c = c.in-Err.ensures.only (primitive 5 []) null_is_lawful refl

pub returns : goal.returns
unfolding length_octets
returns c = c.in-Ok.ensures.only (primitive 5 []) null_is_lawful refl
