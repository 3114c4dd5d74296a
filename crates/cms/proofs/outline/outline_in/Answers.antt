use Rattle.der.specs.DataValueView.{value_view}
use Rattle.cms.specs.{Certificate.certificate, auxiliary.OutlineView.outline_view}
use Rattle.cms.proofs.Outlines.{outline_found, outline_only}
use Rattle.cms.proofs.outline.outline_in.Goals as goal

pub returns-in-Ok-clause-found : goal.returns-in-Ok-clause-found
returns-in-Ok-clause-found c =
    let (lawful, is) = c.in-Ok.ensures.found in
    outline_found outline_view c.outline_from.result c.args.octets.now (value_view c.in-Ok.value) c.outline_from.ensures
    lawful is

-- a certificate is read as its value
pub returns-in-Ok-clause-only : goal.returns-in-Ok-clause-only
returns-in-Ok-clause-only c = λ p is.
    outline_only outline_view c.outline_from.result (value_view c.in-Ok.value) p c.outline_from.ensures
    (c.in-Ok.ensures.only (certificate p) is.lawful is.encoded) is.shortest is.shallow

pub returns-in-Err-clause-only : goal.returns-in-Err-clause-only
returns-in-Err-clause-only c = λ p is. c.in-Err.ensures.only (certificate p) is.lawful is.encoded
