use Rattle.sha2.specs.Sha256.{sha256}
use Rattle.policy.{specs.Kinds.is_hash, specs.View.account_view, proofs.Searches.found_value}
use Rattle.policy.proofs.policy.Policy.account_of_key.Goals as goal

pub returns : goal.returns
returns c =
    let found = rw (c.deref.ensures.value, c.digest-hash.ensures) at c.find_by_hash.ensures in
    found_value (λ x. x.now) account_view
    (λ x. is_hash (sha256 c.args.key.now) x.key_sha256) c.find_by_hash.result c.args.self.now.accounts.items found
