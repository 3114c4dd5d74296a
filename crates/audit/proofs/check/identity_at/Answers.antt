use Rattle.std.proofs.lemmas.Iterator.Adapters.{YieldsList-from_rev_slice}
use Rattle.std.proofs.{Common.nat_lt, Common.rules, Common.tests, lemmas.Iterator.Search.find_from_yields_List}
use Rattle.book.specs.Values.{identity_view}
use Rattle.audit.proofs.Checks.{last_before}
use Rattle.audit.proofs.check.identity_at.Goals as goal

pub returns : goal.returns
returns c =
    last_before (λ i. i.now) identity_view c.args.serial c.find.result c.args.identities.now
    (find_from_yields_List (λ i. nat_lt (identity_view i).after_serial c.args.serial) _ _ c.find.result
    c.find.ensures.ran (YieldsList-from_rev_slice c.args.identities.now cc) (λ x b q k. search (rules, tests)))
