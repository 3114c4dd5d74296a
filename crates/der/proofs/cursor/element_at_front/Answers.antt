use Rattle.std.proofs.Common.{length, ap, subst, ◌∙◌}
use Rattle.der.specs.{Node.element, Node.length_octets, Node.AreOctets, auxiliary.Piece.piece_view}
use Rattle.der.proofs.{Octets.AreOctets-at, Octets.AreOctets-parts, ReadingElements.element_at_reads}
use Rattle.der.proofs.Elements.{front_taken, element_found, element_not_refused}
use Rattle.der.proofs.cursor.element_at_front.Goals as goal

pub returns-in_err-tag-clause-only : goal.returns-in_err-tag-clause-only
returns-in_err-tag-clause-only c = λ identifier contents rest low short e.
    absurd (element_not_refused c.args.octets.now _ identifier contents rest c.in_err-tag.ensures.read low short e)

pub invariant_of-result : goal.invariant_of-result
invariant_of-result c =
    let read = element_at_reads c.args.octets.now (piece_view c.in_ok-tag.field-0)
    (AreOctets-at c.args.octets.now (λ i. (c.type_inv.octets i).fits)) c.in_ok-tag.ensures.read in
    let front = front_taken c.args.octets.now (element c.in_ok-tag.field-0.tag.octet c.in_ok-tag.field-0.contents.now)
    c.in_ok-tag.field-0.rest.now read.front in
    record { encoded = c.split_at.ensures.front ∙ front; short = read.short }

pub returns-clause-octets : goal.returns-clause-octets
returns-clause-octets c =
    let bytes = AreOctets-at c.args.octets.now (λ i. (c.type_inv.octets i).fits) in
    let read = element_at_reads c.args.octets.now (piece_view c.in_ok-tag.field-0) bytes c.in_ok-tag.ensures.read in
    let parts = AreOctets-parts (element c.in_ok-tag.field-0.tag.octet c.in_ok-tag.field-0.contents.now)
    c.in_ok-tag.field-0.rest.now (subst AreOctets read.front bytes) in
    (AreOctets-parts (length_octets (length c.in_ok-tag.field-0.contents.now)) c.in_ok-tag.field-0.contents.now
    parts.0.1).1

pub returns-clause-only : goal.returns-clause-only
returns-clause-only c = λ identifier contents rest low short e.
    let same = element_found c.args.octets.now (piece_view c.in_ok-tag.field-0) identifier contents rest
    c.in_ok-tag.ensures.read low short e in
    (ap (λ p. p.identifier) same, ap (λ p. p.contents) same)
