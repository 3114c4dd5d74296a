use Rattle.std.proofs.Common.{refl}
use Rattle.console.proofs.Writes.{appends_nothing}
use Rattle.counter.proofs.run.run_word.Goals as goal

pub returns-in_ok-continue_in-in-Continue-clause-done : goal.returns-in_ok-continue_in-in-Continue-clause-done
returns-in_ok-continue_in-in-Continue-clause-done g c = λ _.
    rw c.in-Continue.is (
      refl,
      (
        c.in_ok-continue_in-in-Continue.ensures.continued,
        rw (c.another-new.ensures.paths, c.another-new.ensures.path) at c.in_ok-continue_in-in-Continue.ensures.free,
      ),
      appends_nothing (g.O.Write.contents c.args.output.now),
    )

pub returns-then-branch-clause-done : goal.returns-then-branch-clause-done
returns-then-branch-clause-done g c = λ _.
    rw c.in-Audit.is (refl, rw c.if-branch.true at c.in_ok-audit-in-Audit.ensures.extracted)

pub returns-else-branch-clause-failing : goal.returns-else-branch-clause-failing
returns-else-branch-clause-failing g c =
    λ _.
    let failed = c.in_ok-audit-in-Audit.ensures.failed c.if-branch.false in
    let extracted = rw c.if-branch.false at c.in_ok-audit-in-Audit.ensures.extracted in
    (c.in-Audit.words, c.in-Audit.is, failed.0, extracted, failed.1)
