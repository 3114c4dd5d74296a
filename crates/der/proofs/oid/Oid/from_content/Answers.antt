use Rattle.std.proofs.Common.{◌∙◌, refl, sym}
use Rattle.der.proofs.OidContents.{ReadsAsOid-written, subidentifiers_of-written}
use Rattle.der.proofs.oid.Oid.from_content.Goals as goal

pub invariant_of-result : goal.invariant_of-result
invariant_of-result c =
    let is = c.if-not-is_oid_content.ensures.content.0 refl in
    ReadsAsOid-written c.in_ok-from_slice.field-0.items is.subidentifiers is.oid
    (c.in_ok-from_slice.ensures.items ∙ is.encoded)

pub returns-clause-found : goal.returns-clause-found
returns-clause-found c =
    let is = c.if-not-is_oid_content.ensures.content.0 refl in
    let read = ReadsAsOid-written c.in_ok-from_slice.field-0.items is.subidentifiers is.oid
    (c.in_ok-from_slice.ensures.items ∙ is.encoded) in
    (read.oid, sym c.in_ok-from_slice.ensures.items ∙ sym read.same)

pub returns-clause-only : goal.returns-clause-only
returns-clause-only c subidentifiers oid written =
    subidentifiers_of-written _ _ (c.in_ok-from_slice.ensures.items ∙ written)
