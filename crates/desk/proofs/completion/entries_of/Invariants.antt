use Rattle.std.proofs.Common.{◌≡◌, ◌≤◌, length, map, take, vec_len}
use Rattle.std.specs.Prelude.{vec_capacity}
use Rattle.book.specs.Entries.{entries_view}
use Rattle.desk.specs.{Batches.seal_entry, auxiliary.Completions.seal_view}
use Rattle.desk.proofs.completion.entries_of.Given as goal

abbrev pub invariant-loop-seal : goal.invariant-loop-seal
invariant-loop-seal l = record {
  counted : vec_len l.entries ≡ l.seal-index;
  room : length l.seals ≤ vec_capacity l.entries;
  entries : entries_view l.entries.items ≡ map seal_entry (map seal_view (take l.seal-index l.seals));
}
