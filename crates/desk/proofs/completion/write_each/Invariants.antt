use Rattle.std.proofs.Common.{◌≡◌, ◌≤◌, length, map, take, vec_len}
use Rattle.std.specs.Prelude.{vec_capacity}
use Rattle.cms.specs.Signer.{signed_by}
use Rattle.desk.specs.auxiliary.Completions.{seal_view, AreWritten}
use Rattle.desk.specs.{Answers.reply_as, Calls.settings_view, WaitingStamps.pendings_in}
use Rattle.desk.proofs.completion.write_each.Given as goal

abbrev pub invariant-loop-index : goal.invariant-loop-index
invariant-loop-index l = record {
  few_seals : vec_len l.written.seals ≤ l.index;
  many_replies : vec_len l.written.replies ≡ l.index;
  room_for_seals : length l.waits ≤ vec_capacity l.written.seals;
  room_for_replies : length l.waits ≤ vec_capacity l.written.replies;
  written : AreWritten (pendings_in (settings_view l.settings) (take l.index l.waits))
      (map signed_by (take l.index l.answers)) (map seal_view l.written.seals.items)
      (map reply_as l.written.replies.items);
}
