use Rattle.book.specs.Values.{stamp_view}
use Rattle.operations.proofs.ExaminedStamps.{found_checked, found_unchecked}
use Rattle.operations.proofs.audits.examine.Goals as goal

pub returns-then-not-asked-clause-found : goal.returns-then-not-asked-clause-found
returns-then-not-asked-clause-found g c = λ h b s rows known.
    let next = c.in_ok-judged.ensures.judged b rows known in (
      found_unchecked c.args.asked.now b rows (stamp_view c.args.stamp.now) c.in_ok-judged.judged
          c.if-not-asked.true next.0 c.in_ok-judged.ensures.unjudged,
      next.1,
    )

pub returns-clause-found : goal.returns-clause-found
returns-clause-found g c = λ h b s rows known.
    let next = c.in_ok-judged.ensures.judged b rows known in
    let installed = next.1.installed in
    let passes = rw (c.as_slice.ensures.value, installed) at c.in_ok-row.ensures in (
      found_checked c.args.asked.now b rows (stamp_view c.args.stamp.now) c.in_ok-row.row c.in_ok-deposit.deposit
          c.in_ok-judged.judged c.if-not-asked.false passes (c.in_ok-deposit.ensures.value h b s) next.0
          c.in_ok-judged.ensures.unjudged,
      next.1,
    )
