use Rattle.std.{proofs.Common.◌∙◌, specs.Str.bytes_eq}
use Rattle.der.specs.ObjectIdentifier.{oid_content}
use Rattle.policy.proofs.Searches.{found_tells}
use Rattle.policy.proofs.find.has_oid.Goals as goal

pub returns : goal.returns
returns g c =
    let found = rw c.content.ensures.encoded at c.find_by_oid.ensures in
    c.is_some.ensures ∙ found_tells (λ e. e.now) (λ e. oid_content (g.T.Identified.oid_of e))
    (λ other. bytes_eq other (oid_content c.args.oid.now)) c.find_by_oid.result c.args.entries.now found
