use Rattle.std.proofs.Common.{◌+◌, ◌∙◌, refl, rules}
use Rattle.operations.proofs.ExaminedStamps.{all_told, begun, cut_off, cut_told, ended, failed, follows, passed}
use Rattle.operations.proofs.audits.examine_each.Goals.{else-failing, then-failing+in_ok-tell+else-not-branch}
use Rattle.operations.proofs.audits.examine_each.Goals as goal

pub loop-stamp-init : goal.loop-stamp-init
loop-stamp-init g c = (begun c.args.asked.now g.B.Standing _ _ _, refl)

pub loop-stamp-preserved-after-failing : goal.loop-stamp-preserved-after-failing
loop-stamp-preserved-after-failing g c =
    let before = c.loop-stamp.invariant in
    let first = c.in_ok-stamp.ensures in
    let second = c.in_ok-found.ensures in
    let next =
    follows c.args.asked.now g.B.Standing c.loop-stamp.book c.next_stamp.new.self c.examine.new.book
    c.loop-stamp.kept c.examine.new.kept c.loop-stamp.from c.in_ok-stamp.field-0 c.in-Some.stamp c.in_ok-found.found
    c.in-Some.is first.looks second.looks first.value second.found in (
      elim c.if-failing.branch [
        | then-failing+in_ok-tell+else-not-branch w ↦
            rw (w.errors-is, w.agree-is) (failed c.args.asked.now before.0 next
            (c.is_failing-failing.ensures.some w.if-failing.true) (g.E.Write.contents w.tell.new.errors)
            (w.in_ok-tell.ensures.whole w.if-not-branch.false))
        | else-failing w ↦
            rw (w.errors-is, w.agree-is) (passed c.args.asked.now before.0 next
            (c.is_failing-failing.ensures.none w.if-failing.false))
      ],
      second.faults ∙ first.faults ∙ before.1,
    )

pub loop-stamp-preserved : goal.loop-stamp-preserved
loop-stamp-preserved g c =
    let before = c.loop-stamp.invariant in
    let first = c.in_ok-stamp.ensures in
    let second = c.in_ok-found.ensures in
    let next =
    follows c.args.asked.now g.B.Standing c.loop-stamp.book c.next_stamp.new.self c.examine.new.book
    c.loop-stamp.kept c.examine.new.kept c.loop-stamp.from c.in_ok-stamp.field-0 c.in-Some.stamp c.in_ok-found.found
    c.in-Some.is first.looks second.looks first.value second.found in (
      elim c.if-failing.branch [
        | then-failing+in_ok-tell+else-not-branch w ↦
            rw (w.errors-is, w.agree-is) (failed c.args.asked.now before.0 next
            (c.is_failing-failing.ensures.some w.if-failing.true) (g.E.Write.contents w.tell.new.errors)
            (w.in_ok-tell.ensures.whole w.if-not-branch.false))
        | else-failing w ↦
            rw (w.errors-is, w.agree-is) (passed c.args.asked.now before.0 next
            (c.is_failing-failing.ensures.none w.if-failing.false))
      ],
      second.faults ∙ first.faults ∙ before.1,
    )

pub returns-then-not-branch-clause-examined : goal.returns-then-not-branch-clause-examined
returns-then-not-branch-clause-examined g c =
    let before = c.loop-stamp.invariant in
    let first = c.in_ok-stamp.ensures in
    let second = c.in_ok-found.ensures in
    let next =
    follows c.args.asked.now g.B.Standing c.loop-stamp.book c.next_stamp.new.self c.examine.new.book
    c.loop-stamp.kept c.examine.new.kept c.loop-stamp.from c.in_ok-stamp.field-0 c.in-Some.stamp c.in_ok-found.found
    c.in-Some.is first.looks second.looks first.value second.found in
    cut_off c.args.asked.now before.0 next (c.is_failing-failing.ensures.some c.if-failing.true)
    (g.E.Write.contents c.tell.new.errors) (c.in_ok-tell.ensures.cut c.if-not-branch.true)

pub returns-then-not-branch-clause-failed : goal.returns-then-not-branch-clause-failed
returns-then-not-branch-clause-failed g c =
    let before = c.loop-stamp.invariant in
    let first = c.in_ok-stamp.ensures in
    let second = c.in_ok-found.ensures in
    let next =
    follows c.args.asked.now g.B.Standing c.loop-stamp.book c.next_stamp.new.self c.examine.new.book
    c.loop-stamp.kept c.examine.new.kept c.loop-stamp.from c.in_ok-stamp.field-0 c.in-Some.stamp c.in_ok-found.found
    c.in-Some.is first.looks second.looks first.value second.found in
    λ _. cut_told c.args.asked.now before.0 next (c.is_failing-failing.ensures.some c.if-failing.true)
    (g.E.Write.contents c.tell.new.errors) (c.in_ok-tell.ensures.cut c.if-not-branch.true)

pub returns-clause-failed : goal.returns-clause-failed
returns-clause-failed g c =
    let before = c.loop-stamp.invariant.0 in
    λ is. all_told _ _ before.failures (before.failed is) before.told

pub returns-clause-examined : goal.returns-clause-examined
returns-clause-examined g c =
    ended c.args.asked.now g.B.Standing c.args.book.now c.loop-stamp.book c.next_stamp.new.self c.args.kept.now
    c.loop-stamp.kept (g.E.Write.contents c.args.errors.now) (g.E.Write.contents c.loop-stamp.errors) c.loop-stamp.from
    c.loop-stamp.agree c.loop-stamp.invariant.0 c.in_ok-stamp.ensures.looks (search rules)
