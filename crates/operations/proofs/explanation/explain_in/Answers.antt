use Rattle.book.specs.Values.{stamp_view}
use Rattle.operations.specs.Kept.{rows_before}
use Rattle.operations.proofs.Explained.{found_alone}
use Rattle.operations.proofs.explanation.explain_in.Goals as goal

pub returns-clause-explained : goal.returns-clause-explained
returns-clause-explained g c = λ honest b s.
    let next = c.in_ok-stamp.ensures in
    let kept = c.in_ok-kept.ensures in (
      stamp_view c.in-Some.stamp,
      found_alone c.args.serial b c.in_ok-stamp.field-0 c.in-Some.stamp c.in-Some.is
          (rw c.in-Some.is at next.within) (next.value (kept.looks.honest honest) b s),
      c.in_ok-text.ensures.explained b (rows_before c.args.serial b) (kept.value honest b (next.looks.stands b s)),
    )
