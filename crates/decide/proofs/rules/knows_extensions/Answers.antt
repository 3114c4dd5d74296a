use Rattle.std.proofs.Common.{rules, tests}
use Rattle.std.proofs.lemmas.Iterator.{Consumers.YieldsList-from_first, Search.all_from_yields_List}
use Rattle.tsp.specs.View.{extension_view}
use Rattle.decide.specs.auxiliary.Tests.{knows_extension}
use Rattle.decide.proofs.rules.knows_extensions.Goals as goal

pub returns : goal.returns
returns c =
    all_from_yields_List (knows_extension c.args.known.now c.args.tsa_policy.now) _ _ c.all.result c.all.ensures.ran
    (YieldsList-from_first extension_view (λ extensions. extensions) c.args.extensions.now c.again.ensures)
    (λ x b q k. search (rules, tests))
