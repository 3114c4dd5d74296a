use Rattle.std.proofs.{Common.sym, lemmas.Bool.eqb-true, lemmas.Bool.eqb-false}
use Rattle.der.{specs.Node.bit_six, specs.DataValue.value_in, proofs.Elements.not_equal, proofs.Elements.equal_where}
use Rattle.der.proofs.ValuesTaken.{parts_of_value, components_found, components_other, components_outside}
use Rattle.der.proofs.data_value.DataValue.components_under.Goals as goal

pub returns-then-ne : goal.returns-then-ne
returns-then-ne c =
    let e = c.args.self.now.element in
    let parts = parts_of_value e.whole.now e.tag.octet e.content.now c.args.self.now.lawful e.encoded
    e.tag.low_tag_number e.short in
    sym (components_other c.args.tag.octet e.tag.octet e.content.now (value_in e.whole.now) parts
    (not_equal e.tag.octet c.args.tag.octet c.if-ne.ensures))

pub returns-then-not-is_constructed : goal.returns-then-not-is_constructed
returns-then-not-is_constructed c =
    let e = c.args.self.now.element in
    let parts = parts_of_value e.whole.now e.tag.octet e.content.now c.args.self.now.lawful e.encoded
    e.tag.low_tag_number e.short in
    let same = equal_where e.tag.octet c.args.tag.octet c.if-ne.ensures in
    sym (components_outside c.args.tag.octet e.tag.octet e.content.now (value_in e.whole.now) parts same
    (eqb-false (bit_six c.args.tag.octet) 1 (sym c.if-not-is_constructed.ensures)))

pub invariant_of-result : goal.invariant_of-result
invariant_of-result c =
    let e = c.args.self.now.element in
    let parts = parts_of_value e.whole.now e.tag.octet e.content.now c.args.self.now.lawful e.encoded
    e.tag.low_tag_number e.short in
    let same = equal_where e.tag.octet c.args.tag.octet c.if-ne.ensures in
    record {
      lawful = (components_found c.args.tag.octet e.tag.octet e.content.now (value_in e.whole.now) parts same
          (eqb-true (bit_six c.args.tag.octet) 1 (sym c.if-not-is_constructed.ensures))).1;
    }

pub returns : goal.returns
returns c =
    let e = c.args.self.now.element in
    let parts = parts_of_value e.whole.now e.tag.octet e.content.now c.args.self.now.lawful e.encoded
    e.tag.low_tag_number e.short in
    let same = equal_where e.tag.octet c.args.tag.octet c.if-ne.ensures in
    sym (components_found c.args.tag.octet e.tag.octet e.content.now (value_in e.whole.now) parts same
    (eqb-true (bit_six c.args.tag.octet) 1 (sym c.if-not-is_constructed.ensures))).0
