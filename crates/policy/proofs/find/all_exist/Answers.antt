use Rattle.std.proofs.Common.{◌∙◌, sym, map, string_bytes, rules, tests}
use Rattle.std.proofs.lemmas.Iterator.{YieldsList-from_slice, Search.all_from_yields_List}
use Rattle.std.proofs.lemmas.List.Folds.{list_all-map}
use Rattle.policy.specs.Kinds.{is_among}
use Rattle.policy.proofs.find.all_exist.Goals as goal

pub returns : goal.returns
returns g c =
    let exists = is_among (map g.T.Named.name_of c.args.entries.now) in
    all_from_yields_List (λ name. exists (string_bytes name)) _ _ c.all.result c.all.ensures.ran
    (YieldsList-from_slice c.args.names.now cc) (λ x b q k. search (rules, tests))
    ∙ sym (list_all-map exists string_bytes c.args.names.now)
