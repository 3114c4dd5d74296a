use Rattle.std.proofs.Common.{arith}
use Rattle.service.proofs.KnownLemmas.{none_begun}
use Rattle.service.proofs.request.Request.new.Goals as goal

pub invariant_of-t-8 : goal.invariant_of-t-8
invariant_of-t-8 c = record {
  within = omega arith;
  few = omega (arith, c.in-Ok.ensures.len, c.in-Ok.room.ok.0);
  is = none_begun;
  short = tt;
  left = omega (arith, c.in-Ok.ensures.len, c.in-Ok.room.ok.0);
}
