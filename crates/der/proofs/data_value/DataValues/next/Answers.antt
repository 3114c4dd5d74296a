use Rattle.std.proofs.Common.{Some, sym, ap, ◌∙◌}
use Rattle.der.specs.DataValue.{are_values, value_in, values_in}
use Rattle.der.proofs.{Elements.rest_dropped, ValuesTaken.next_none, ValuesTaken.next_found}
use Rattle.der.proofs.data_value.DataValues.next.Goals as goal

pub returns-in_default-clause-first : goal.returns-in_default-clause-first
returns-in_default-clause-first c =
    sym (next_none c.args.self.now.rest.now c.args.self.now.lawful c.in_default.ensures.only)

pub invariant_of-self : goal.invariant_of-self
invariant_of-self c =
    let e = c.in-Ok.element in
    let front = c.in-Ok.ensures.front in
    let rest_is = c.split_at.ensures.back ∙ rest_dropped c.args.self.now.rest.now e.whole.now front.0 front.1 in
    let found = next_found c.args.self.now.rest.now e.whole.now e.tag.octet e.content.now front.0 c.args.self.now.lawful
    front.1 e.encoded c.in-Ok.ensures.only in
    record { lawful = ap are_values rest_is ∙ found.left }

pub invariant_of-result : goal.invariant_of-result
invariant_of-result c =
    let e = c.in-Ok.element in
    let front = c.in-Ok.ensures.front in
    let found = next_found c.args.self.now.rest.now e.whole.now e.tag.octet e.content.now front.0 c.args.self.now.lawful
    front.1 e.encoded c.in-Ok.ensures.only in
    record { lawful = found.value }

pub returns-clause-first : goal.returns-clause-first
returns-clause-first c =
    let e = c.in-Ok.element in
    let front = c.in-Ok.ensures.front in
    let rest_is = c.split_at.ensures.back ∙ rest_dropped c.args.self.now.rest.now e.whole.now front.0 front.1 in
    let found = next_found c.args.self.now.rest.now e.whole.now e.tag.octet e.content.now front.0 c.args.self.now.lawful
    front.1 e.encoded c.in-Ok.ensures.only in
    ap (λ rest. Some (value_in e.whole.now, values_in rest)) rest_is ∙ sym found.first
