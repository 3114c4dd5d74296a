use Rattle.std.proofs.Common.{◌≡◌, rules, true, false, nat_lt, nat_le, slice_index_or}
use Rattle.der.{specs.Number.is_shortest, proofs.NumberContents.is_shortest_decides}
use Rattle.der.proofs.number.is_number_content.Goals as goal

pub returns-in-empty-clause-content : goal.returns-in-empty-clause-content
returns-in-empty-clause-content c =
    let octets = c.args.octets.now in
    let told : false ≡ is_shortest octets = search rules in
    is_shortest_decides octets _ (λ i. (c.type_inv.octets i).fits) told

pub returns-in-len1-clause-content : goal.returns-in-len1-clause-content
returns-in-len1-clause-content c =
    let octets = c.args.octets.now in
    let told : true ≡ is_shortest octets = search rules in
    is_shortest_decides octets _ (λ i. (c.type_inv.octets i).fits) told

pub returns-in-0-clause-content : goal.returns-in-0-clause-content
returns-in-0-clause-content c =
    let octets = c.args.octets.now in
    let told : nat_le 128 (slice_index_or octets 1 0) ≡ is_shortest octets = search rules in
    is_shortest_decides octets _ (λ i. (c.type_inv.octets i).fits) told

pub returns-in-255-clause-content : goal.returns-in-255-clause-content
returns-in-255-clause-content c =
    let octets = c.args.octets.now in
    let told : nat_lt (slice_index_or octets 1 0) 128 ≡ is_shortest octets = search rules in
    is_shortest_decides octets _ (λ i. (c.type_inv.octets i).fits) told

pub returns-in-len2-up-clause-content : goal.returns-in-len2-up-clause-content
returns-in-len2-up-clause-content c =
    let octets = c.args.octets.now in
    let told : true ≡ is_shortest octets = search rules in
    is_shortest_decides octets _ (λ i. (c.type_inv.octets i).fits) told
