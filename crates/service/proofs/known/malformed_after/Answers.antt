use Rattle.std.proofs.Common.{arith}
use Rattle.service.proofs.KnownLemmas.{overflows_before, headless_at}
use Rattle.service.proofs.known.malformed_after.Goals as goal

pub loop-low-preserved-in-Ok-Complete : goal.loop-low-preserved-in-Ok-Complete
loop-low-preserved-in-Ok-Complete c = record {
  from = c.loop-low.invariant.from;
  order = omega arith;
  within = omega (arith, c.loop-low.invariant.within, c.loop-low-test.true);
  may = c.loop-low.invariant.may;
  never = overflows_before c.args.octets.now _ c.loop-low.high _ _ (omega (arith, c.loop-low-test.true))
      c.loop-low.invariant.within (rw c.in-Ok-Complete.field-0-is at c.in-Ok-Complete.ensures.complete)
      c.loop-low.invariant.never;
}

pub returns-clause-headless : goal.returns-clause-headless
returns-clause-headless c =
    headless_at c.args.octets.now c.loop-low.low c.loop-low.high c.loop-low.invariant.order
    (omega (arith, c.loop-low-test.false)) c.loop-low.invariant.within c.requires.few c.loop-low.invariant.may
    c.loop-low.invariant.never
