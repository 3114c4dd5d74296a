use Rattle.std.proofs.Common.{◌≡◌, ◌∙◌, sym, arith}
use Rattle.gentime.proofs.Texts.{without_trailing_zeros-take_zero, without_trailing_zeros-take_other}
use Rattle.gentime.proofs.components.without_trailing_zeros.Goals as goal
use Rattle.gentime.proofs.components.without_trailing_zeros.Goals.{then-loop-end-test+else-digits-end-eq48}
use Rattle.gentime.proofs.components.without_trailing_zeros.Goals.{else-loop-end-test}

pub loop-end-preserved : goal.loop-end-preserved
loop-end-preserved c = (
  omega arith,
  without_trailing_zeros-take_zero _ _ _ c.loop-end-test.true c.loop-end.invariant.0
      c.if-digits-end-eq48.true ∙ c.loop-end.invariant.1,
)

pub returns : goal.returns
returns c = elim c.loop-end-test.branch [
  | then-loop-end-test+else-digits-end-eq48 w ↦ sym
      (without_trailing_zeros-take_other _ _ _ w.loop-end-test.true c.loop-end.invariant.0 w.if-digits-end-eq48.false)
      ∙ c.loop-end.invariant.1
  | else-loop-end-test w ↦ let none : c.loop-end.end ≡ 0 = omega arith in rw none (rw none at c.loop-end.invariant.1)
]
