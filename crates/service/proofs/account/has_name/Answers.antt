use Rattle.std.proofs.Common.{◌∙◌, sym, string_bytes, rules, tests}
use Rattle.std.proofs.{lemmas.Iterator.YieldsList-from_slice, lemmas.Iterator.Search.any_from_yields_List}
use Rattle.std.specs.Str.{bytes_eq}
use Rattle.policy.proofs.Searches.{any_value}
use Rattle.service.proofs.account.has_name.Goals as goal

pub returns : goal.returns
returns c =
    any_from_yields_List (λ other. bytes_eq (string_bytes other) c.args.name.now) _ _ c.any.result c.any.ensures.ran
    (YieldsList-from_slice c.args.names.now cc) (λ x b q k. search (rules, tests))
    ∙ sym (any_value (λ other. bytes_eq other c.args.name.now) string_bytes c.args.names.now)
