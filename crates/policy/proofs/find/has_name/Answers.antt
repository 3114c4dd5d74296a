use Rattle.std.{proofs.Common.◌∙◌, specs.Str.bytes_eq}
use Rattle.policy.proofs.Searches.{found_tells}
use Rattle.policy.proofs.find.has_name.Goals as goal

pub returns : goal.returns
returns g c =
    c.is_some.ensures ∙ found_tells (λ e. e.now) g.T.Named.name_of (λ name. bytes_eq name c.args.name.now)
    c.find_by_name.result c.args.entries.now c.find_by_name.ensures
