use Rattle.std.proofs.Common.{◌≡◌, ◌∙◌, [], Err, ap, sym, subst}
use Rattle.std.specs.Prelude.{IfErr}
use Rattle.desk.specs.CallContract.{StepsBy, with_signer}
use Rattle.desk.specs.{Answers.ended_as, Batches.stamp_for, Calls.settings_view, Effects.for_reply, Effects.in_seal}
use Rattle.desk.specs.{auxiliary.Kept.kept_as, MachineStep.IsMet, Together.question_view, auxiliary.Wholes.answer_by}
use Rattle.desk.proofs.stamps.Beginnings.{begins, begins_unasked}
use Rattle.desk.proofs.stamps.Stamps.{is_stamp, is_whole}
use Rattle.desk.proofs.stamp.answer_with.Goals as goal

pub returns : goal.returns
returns g c =
    let s = settings_view c.args.settings in
    let a = question_view c.args.asked in
    let old = c.args.store.now in
    let judged = c.judge_one-judged in
    let reserved = c.reserve-begun in
    let done = c.complete in
    let t = with_signer g.G.Signer.signs g.G.Signer.fault_count c.args.signer.now done.new.signer in
    let whole = is_whole g.B.Standing g.G.Signer.signs g.G.Signer.fault_count s (stamp_for a) for_reply a
    (IsMet (stamp_for a)) (is_stamp g.B.Standing s a) c.args.signer.now done.new.signer reserved.result done.result old
    reserved.new.store done.new.store
    (begins g.B.Standing s a judged.result reserved.result old judged.new.store reserved.new.store judged.ensures
    reserved.ensures.reserves) done.ensures.honest done.ensures.completes in
    record {
      honest = λ honest. judged.ensures.judges.looks.honest (reserved.ensures.honest (done.ensures.honest honest));
      unasked = λ rule first.
          let unasked = begins_unasked g.B.Standing s a [] judged.result reserved.result old judged.new.store
          reserved.new.store judged.ensures reserved.ensures.reserves rule first in
          let same = subst (λ r. IfErr r (λ q. (done.result ≡ Err q) × (done.new.store ≡ reserved.new.store)
          × (done.new.signer ≡ c.args.signer.now))) unasked.0 done.ensures.unmoved in (
            c.reply_by.ensures ∙ ap (λ r. answer_by for_reply (ended_as (kept_as in_seal) r)) same.0,
            same.1 ∙ unasked.1,
            same.2,
          );
      step = (
        whole.0,
        subst (StepsBy g.B.Standing t s (stamp_for a) whole.0 old done.new.store) (sym c.reply_by.ensures) whole.1,
      );
    }
