use Rattle.std.proofs.Common.{◌+◌, ◌≤◌, ◌∙◌, [], length, take, sym, ap, subst, arith, rules}
use Rattle.desk.specs.auxiliary.Verdicts.{verdict_of, JudgesEach, JudgesOne}
use Rattle.desk.specs.{Calls.settings_view, Together.question_view, Together.questions_view}
use Rattle.desk.proofs.stamps.BatchJudgement.{asked_more, judges_none, judges_next}
use Rattle.desk.proofs.batch_start.judge_each.Goals as goal

pub loop-question-init : goal.loop-question-init
loop-question-init g c =
    let s = settings_view c.args.settings in
    let store = c.args.store.now in
    record {
      many = search rules;
      few = search rules;
      verdicts_room = c.requires.verdicts_room;
      waits_room = c.requires.waits_room;
      judges = subst (λ vs. JudgesEach g.B.Standing s [] vs c.args.waits.now.items store store)
          (sym c.requires.none_judged)
          (subst (λ ws. JudgesEach g.B.Standing s [] [] ws store store) (sym c.requires.none_waits)
          (judges_none g.B.Standing s store));
    }

pub loop-question-preserved : goal.loop-question-preserved
loop-question-preserved g c =
    let s = settings_view c.args.settings in
    let l = c.loop-question in
    let asked = c.args.asked.now in
    let i = l.question-index in
    let q = c.question-item.result in
    let keep = c.keep in
    record {
      many = keep.ensures.one_verdict ∙ ap (λ n. n + 1) l.invariant.many;
      few = omega (arith, l.invariant.few, keep.ensures.few_waits);
      verdicts_room = subst (λ n. length asked ≤ n) (sym keep.ensures.room_for_verdicts) l.invariant.verdicts_room;
      waits_room = subst (λ n. length asked ≤ n) (sym keep.ensures.room_for_waits) l.invariant.waits_room;
      judges = subst (λ qs. JudgesEach g.B.Standing s qs keep.new.verdicts.items keep.new.waits.items c.args.store.now
          c.judge_one-judged.new.store) (asked_more asked i q c.loop-question-test.true c.question-item.is)
          (judges_next g.B.Standing s (questions_view (take i asked)) (question_view q) l.verdicts.items
          keep.new.verdicts.items l.waits.items keep.new.waits.items (verdict_of c.judge_one-judged.result)
          c.args.store.now l.store
          c.judge_one-judged.new.store l.invariant.judges
          (subst (λ ws. JudgesOne g.B.Standing s (question_view q) ws (verdict_of c.judge_one-judged.result) l.store
          c.judge_one-judged.new.store) c.deref.ensures.value c.judge_one-judged.ensures.judges) keep.ensures.kept);
    }
