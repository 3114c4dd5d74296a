use Rattle.std.proofs.Common.{sym, ◌∙◌}
use Rattle.book.specs.Entries.{entries_view, entry_view}
use Rattle.desk.proofs.stamps.Committed.{some_of, committed}
use Rattle.desk.proofs.commit.commit.Goals as goal

pub returns : goal.returns
returns g c = record {
  commits = committed g.B.Standing (entries_view c.args.entries.now) c.args.store.now c.append.new.self c.append.result
      (some_of entry_view c.args.entries.now (sym c.is_empty.ensures ∙ c.if-is_empty.false)) c.append.ensures.appends
      c.append.ensures.refusals;
  refusals = c.append.ensures.refusals;
}
