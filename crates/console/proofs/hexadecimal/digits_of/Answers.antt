-- What `retain` keeps is what the closure's test keeps.
use Rattle.std.proofs.{Common.rules, Common.not, lemmas.List.Elements.filter_from_retain}
use Rattle.console.specs.Hexadecimal.{is_blank}
use Rattle.console.proofs.hexadecimal.digits_of.Goals as goal

pub returns : goal.returns
returns c =
    filter_from_retain _ (λ octet. not (is_blank octet)) (λ p x b q k. search rules) _ _ _ c.retain.ensures.filtered
