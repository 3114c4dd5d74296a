use Rattle.std.proofs.Common.{◌∙◌}
use Rattle.policy.{specs.Kinds.is_hash, proofs.Searches.found_tells}
use Rattle.policy.proofs.find.has_hash.Goals as goal

pub returns : goal.returns
returns c =
    c.is_some.ensures ∙ found_tells (λ a. a.now) (λ a. a.key_sha256) (is_hash c.args.hash.now) c.find_by_hash.result
    c.args.accounts.now c.find_by_hash.ensures
