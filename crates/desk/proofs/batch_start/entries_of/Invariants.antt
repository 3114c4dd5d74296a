use Rattle.std.proofs.Common.{◌≡◌, ◌≤◌, length, map, take, vec_len}
use Rattle.std.specs.Prelude.{vec_capacity}
use Rattle.book.specs.{Entries.entries_view, History.Reserved}
use Rattle.desk.specs.WaitingStamps.{waiting_view}
use Rattle.desk.proofs.batch_start.entries_of.Given as goal

abbrev pub invariant-loop-waiting : goal.invariant-loop-waiting
invariant-loop-waiting l = record {
  counted : vec_len l.entries ≡ l.waiting-index;
  room : length l.waits ≤ vec_capacity l.entries;
  entries : entries_view l.entries.items ≡ map Reserved (map waiting_view (take l.waiting-index l.waits));
}
