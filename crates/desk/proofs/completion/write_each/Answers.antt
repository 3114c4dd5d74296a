use Rattle.std.proofs.Common.{◌+◌, ◌∙◌, map, ap, arith}
use Rattle.cms.specs.Signer.{signed_by}
use Rattle.desk.specs.{Answers.reply_as, Calls.settings_view, auxiliary.Completions.seal_view, WaitingStamps.pending_in}
use Rattle.desk.proofs.stamps.Completions.{written_next}
use Rattle.desk.proofs.completion.write_each.Goals as goal

pub loop-index-preserved : goal.loop-index-preserved
loop-index-preserved c =
    let before = c.loop-index.invariant in
    let put = c.put.ensures in
    record {
      few_seals = omega (arith, before.few_seals, put.seals);
      many_replies = put.replies ∙ ap (λ n. n + 1) before.many_replies;
      room_for_seals = omega (arith, before.room_for_seals, put.room_for_seals);
      room_for_replies = omega (arith, before.room_for_replies, put.room_for_replies);
      written = written_next (pending_in (settings_view c.args.settings)) signed_by c.args.waits.now
          c.args.answers.now c.loop-index.index c.index-waits-index.result c.index-answers-index.result
          (map seal_view c.loop-index.written.seals.items) (map seal_view c.put.new.written.seals.items)
          (map reply_as c.loop-index.written.replies.items) (map reply_as c.put.new.written.replies.items)
          c.loop-index-test.true (omega (arith, c.loop-index-test.true, c.requires.as_many)) c.index-waits-index.is
          c.index-answers-index.is before.written put.written;
    }
