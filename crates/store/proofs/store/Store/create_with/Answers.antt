use Rattle.store.proofs.{Words.entries_view, Creation.left_as_it_was, Creation.left_or_made, Creation.stands_made}
use Rattle.store.proofs.store.Store.create_with.Goals as goal

pub returns-in-Ok-clause-stands : goal.returns-in-Ok-clause-stands
returns-in-Ok-clause-stands g c has fit =
    stands_made g.S.Store (entries_view c.args.entries.now) _ fit (c.in-Ok.ensures.keeps has)

pub returns-in-Ok-clause-crash : goal.returns-in-Ok-clause-crash
returns-in-Ok-clause-crash g c = left_or_made _ _ _ _ c.in-Ok.ensures.made

pub returns-in-Err-clause-crash : goal.returns-in-Err-clause-crash
returns-in-Err-clause-crash g c = left_or_made _ _ _ _ c.in-Err.ensures.undone.1

pub returns-in-Err-clause-kept : goal.returns-in-Err-clause-kept
returns-in-Err-clause-kept g c =
    left_as_it_was (entries_view c.args.entries.now) _ _ _ c.in-Err.ensures.undone.1

pub returns-in-Ok-clause-opened : goal.returns-in-Ok-clause-opened
returns-in-Ok-clause-opened g c clean = c.in-Ok.ensures.made.opened clean
