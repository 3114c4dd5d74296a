use Rattle.std.{proofs.Common.◌∙◌, proofs.Common.sym, proofs.Common.rules, proofs.Common.tests, specs.Str.bytes_eq}
use Rattle.std.proofs.lemmas.Iterator.{YieldsList-from_slice, Search.any_from_yields_List}
use Rattle.policy.proofs.Searches.{any_value}
use Rattle.policy.proofs.parser.is_among.Goals as goal

pub returns : goal.returns
returns c =
    any_from_yields_List (λ other. bytes_eq other.now c.args.text.now) _ _ c.any.result c.any.ensures.ran
    (YieldsList-from_slice c.args.known.now cc) (λ x b q k. search (rules, tests))
    ∙ sym (any_value (λ other. bytes_eq other c.args.text.now) (λ k. k.now) c.args.known.now)
