use Rattle.std.proofs.Common.{option_map, subst}
use Rattle.book.specs.Values.{stamp_view}
use Rattle.operations.specs.VoidStamp.{IsUnreadAfter}
use Rattle.operations.proofs.void_stamp.VoidStamp.of.Goals as goal

pub returns-clause-unread : goal.returns-clause-unread
returns-clause-unread c = (
  λ is. absurd (let apart = is in cc),
  λ unread.
      let after = subst (λ last. IsUnreadAfter c.args.floor (option_map (λ s. stamp_view s.now) last)) c.in-Some.is unread in
      absurd (let apart = c.in_ok-tst.ensures.unread.1 after.1 in cc),
)
