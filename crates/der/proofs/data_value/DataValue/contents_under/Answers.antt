use Rattle.std.proofs.{Common.sym, lemmas.Bool.eqb-true, lemmas.Bool.eqb-false}
use Rattle.der.{specs.Node.bit_six, specs.DataValue.value_in, proofs.Elements.not_equal, proofs.Elements.equal_where}
use Rattle.der.proofs.ValuesTaken.{parts_of_value, contents_found, contents_other, contents_inside}
use Rattle.der.proofs.data_value.DataValue.contents_under.Goals as goal

pub returns-then-ne : goal.returns-then-ne
returns-then-ne c =
    let e = c.args.self.now.element in
    let parts = parts_of_value e.whole.now e.tag.octet e.content.now c.args.self.now.lawful e.encoded
    e.tag.low_tag_number e.short in
    sym (contents_other c.args.tag.octet e.tag.octet e.content.now (value_in e.whole.now) parts
    (not_equal e.tag.octet c.args.tag.octet c.if-ne.ensures))

pub returns-then-is_constructed : goal.returns-then-is_constructed
returns-then-is_constructed c =
    let e = c.args.self.now.element in
    let parts = parts_of_value e.whole.now e.tag.octet e.content.now c.args.self.now.lawful e.encoded
    e.tag.low_tag_number e.short in
    let same = equal_where e.tag.octet c.args.tag.octet c.if-ne.ensures in
    sym (contents_inside c.args.tag.octet e.tag.octet e.content.now (value_in e.whole.now) parts same
    (eqb-true (bit_six c.args.tag.octet) 1 (sym c.if-is_constructed.ensures)))

pub returns : goal.returns
returns c =
    let e = c.args.self.now.element in
    let parts = parts_of_value e.whole.now e.tag.octet e.content.now c.args.self.now.lawful e.encoded
    e.tag.low_tag_number e.short in
    let same = equal_where e.tag.octet c.args.tag.octet c.if-ne.ensures in
    sym (contents_found c.args.tag.octet e.tag.octet e.content.now (value_in e.whole.now) parts same
    (eqb-false (bit_six c.args.tag.octet) 1 (sym c.if-is_constructed.ensures)))
