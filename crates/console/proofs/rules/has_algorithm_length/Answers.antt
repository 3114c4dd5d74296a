-- The contents of an object identifier tell it, and the accessors lend what the request has.
use Rattle.std.proofs.Common.{length, sym, ap, ◌∙◌}
use Rattle.der.specs.ObjectIdentifier.{oid_content}
use Rattle.console.proofs.rules.has_algorithm_length.Goals as goal

pub returns : goal.returns
returns c =
    let hash = ap length c.hash.ensures in
    let known = c.has_known_length.ensures in (
      λ t a contained same. sym hash ∙ known.0 t a contained (c.algorithm.ensures ∙ ap oid_content (sym same)),
      λ each. known.1
          (λ a contained same. hash
          ∙ each a contained (sym (c.oids_have_one_content_and_text.ensures.one_content _ _
          (sym c.algorithm.ensures ∙ same)))),
    )
