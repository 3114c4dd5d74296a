use Rattle.std.proofs.Common.{◌≡◌, ◌∙◌, ◌+◌, ap, arith, length, refl}
use Rattle.std.proofs.KnownBytes.{Keeps-refl, Keeps-trans}
use Rattle.audit.proofs.Lines.{asked_first, asked_more, counted_first, counted_more, next_left, one_left}
use Rattle.audit.proofs.extracts.count_octets.Goals as goal

pub loop-line-init : goal.loop-line-init
loop-line-init g c =
    let walk = c.of-walk.ensures in
    rw (walk.begun, walk.from, walk.to) (
      counted_first g.B.Standing _ _ _ _ (ap length c.header.ensures),
      refl,
      Keeps-refl (g.W.Write.contents c.args.out.now),
      refl,
      asked_first g.B.Standing c.args.store.now c.args.from c.args.to (g.W.Output.asked c.args.out.now),
    )

pub loop-line-preserved : goal.loop-line-preserved
loop-line-preserved g c =
    let before = c.loop-line.invariant in
    let next = c.in_ok-line.ensures in
    let more : c.in-Some-checked_add.more ≡ c.loop-line.octets + length c.in-Some.line.items =
    omega (arith, c.in-Some-checked_add.ensures, c.len.ensures) in (
      rw more (counted_more g.B.Standing _ _ _ _ _ _ _ _ _ _ c.in-Some.line.items before.0 next.looks next.faults
          (λ h b s. next_left _ _ _ _ _ c.in-Some.is refl (next.value h b s))),
      next.same_reference ∙ before.1,
      Keeps-trans _ _ _ before.2 c.send.ensures.kept,
      c.if-not-send.ensures.sent refl ∙ before.3,
      asked_more g.B.Standing _ _ _ _ _ _ _ _ _ _ _ _ before.4 before.0.looks next.looks
          (λ h b s. one_left _ _ _ _ c.in-Some.is (next.value h b s)) c.send.ensures.asked,
    )
