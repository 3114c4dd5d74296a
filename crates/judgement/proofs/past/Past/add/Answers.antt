use Rattle.std.proofs.Common.{◌≡◌, ◌+◌, ◌∙◌, ap, sym, Some, rules}
use Rattle.book.specs.Values.{stamp_view}
use Rattle.judgement.proofs.RowsBefore.{count_added, last_added}
use Rattle.judgement.proofs.past.Past.add.Goals as goal

pub returns : goal.returns
returns c = λ rows is.
    let next : c.in_ok-count.count ≡ c.count.result + 1 = search rules in
    let set = c.in_ok-set_count.ensures in
    record {
      last = ap Some c.moment_of.ensures ∙ sym (last_added rows (stamp_view c.args.stamp.now));
      counts = count_added rows (stamp_view c.args.stamp.now) c.args.self.now.counts c.set_count.new.self.counts
          c.in_ok-count.count is.counts (next ∙ ap (λ n. n + 1) (rw c.as_str-account.ensures.value at c.count.ensures))
          (λ account day. rw c.as_str-account.ensures.value at (set.count account day));
    }
