use Rattle.std.specs.Str.{bytes_eq}
use Rattle.der.specs.ObjectIdentifier.{oid_content}
use Rattle.policy.{specs.View.extension_view, proofs.Searches.found_value}
use Rattle.policy.proofs.policy.Policy.extension_of_oid.Goals as goal

pub returns : goal.returns
returns c =
    let found = rw c.deref.ensures.value at c.find_by_oid.ensures in
    found_value (λ x. x.now) extension_view
    (λ x. bytes_eq (oid_content x.oid) c.args.content.now) c.find_by_oid.result c.args.self.now.extensions.items
    found
