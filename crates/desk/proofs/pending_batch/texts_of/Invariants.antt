use Rattle.std.proofs.Common.{◌≡◌, ◌≤◌, length, map, take, vec_len}
use Rattle.std.specs.Prelude.{vec_capacity}
use Rattle.desk.proofs.pending_batch.texts_of.Given as goal

abbrev pub invariant-loop-waiting : goal.invariant-loop-waiting
invariant-loop-waiting l = record {
  counted : vec_len l.texts ≡ l.waiting-index;
  room : length l.waits ≤ vec_capacity l.texts;
  texts : map (λ text. text.now) l.texts.items
      ≡ map (λ waiting. waiting.unsigned.text.items) (take l.waiting-index l.waits);
}
