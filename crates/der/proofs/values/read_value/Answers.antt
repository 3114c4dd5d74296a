use Rattle.std.proofs.Common.{◌≡◌, ◌<◌, length, arith, sym, ap, ◌∙◌}
use Rattle.std.proofs.lemmas.Result.{err_from_is_err_and}
use Rattle.der.specs.{Node.Node, FirstFault.tree_of}
use Rattle.der.proofs.{Octets.AreOctets-at, ReadingSteps.ok_is, ReadingNodes.tree_of-encoding}
use Rattle.der.proofs.{ReadingRuns.node_at_refused, ValuesTaken.reads_alone}
use Rattle.der.proofs.ReadingTree.{tree_of_alone, tree_of_more, tree_of_no_node, refused}
use Rattle.der.proofs.values.read_value.Goals as goal

pub returns-in_err-rest-clause-only : goal.returns-in_err-rest-clause-only
returns-in_err-rest-clause-only c = λ n lawful same.
    absurd (refused c.args.octets.now _ (tree_of_no_node c.args.octets.now _ c.in_err-rest.ensures) n lawful same)

pub returns-in_err-rest-clause-refusals : goal.returns-in_err-rest-clause-refusals
returns-in_err-rest-clause-refusals c =
    let p = err_from_is_err_and c.from_residual.result c.from_residual.ensures.1 in
    rw (p.1, p.2) (tree_of_no_node c.args.octets.now _ c.in_err-rest.ensures)

pub returns-then-not-is_empty-clause-only : goal.returns-then-not-is_empty-clause-only
returns-then-not-is_empty-clause-only c = λ n lawful same.
    let some : 0 < length c.in_ok-rest.rest.now = grind arith in
    absurd (refused c.args.octets.now _ (tree_of_more c.args.octets.now c.in_ok-rest.ensures.0 c.in_ok-rest.rest.now
    c.in_ok-rest.ensures.1 some) n lawful same)

pub returns-then-not-is_empty-clause-refusals : goal.returns-then-not-is_empty-clause-refusals
returns-then-not-is_empty-clause-refusals c =
    let some : 0 < length c.in_ok-rest.rest.now = grind arith in
    tree_of_more c.args.octets.now c.in_ok-rest.ensures.0 c.in_ok-rest.rest.now c.in_ok-rest.ensures.1 some

pub returns-in_err-element-clause-only : goal.returns-in_err-element-clause-only
returns-in_err-element-clause-only c = λ n lawful same.
    absurd (refused c.args.octets.now _ (tree_of_no_node c.args.octets.now _
    (node_at_refused 32 c.args.octets.now _ (omega arith) c.in_err-element.ensures.refusals)) n lawful same)

pub returns-in_err-element-clause-refusals : goal.returns-in_err-element-clause-refusals
returns-in_err-element-clause-refusals c =
    let p = err_from_is_err_and c.from_residual-in_err-element.result c.from_residual-in_err-element.ensures.1 in
    rw (p.1, p.2) (tree_of_no_node c.args.octets.now _
    (node_at_refused 32 c.args.octets.now _ (omega arith) c.in_err-element.ensures.refusals))

pub invariant_of-result : goal.invariant_of-result
invariant_of-result c =
    let none : length c.in_ok-rest.rest.now ≡ 0 = grind arith in
    let n : Node = c.in_ok-rest.ensures.0 in
    let e = c.in_ok-element.element in
    let found = tree_of_alone c.args.octets.now n c.in_ok-rest.rest.now c.in_ok-rest.ensures.1 none in
    record {
      lawful = (reads_alone c.args.octets.now e.whole.now e.tag.octet e.content.now n
          (AreOctets-at c.args.octets.now (λ i. (c.type_inv.octets i).fits)) found e.encoded
          c.in_ok-element.ensures.only).held;
    }

pub returns-clause-found : goal.returns-clause-found
returns-clause-found c =
    let none : length c.in_ok-rest.rest.now ≡ 0 = grind arith in
    let n : Node = c.in_ok-rest.ensures.0 in
    let e = c.in_ok-element.element in
    let found = tree_of_alone c.args.octets.now n c.in_ok-rest.rest.now c.in_ok-rest.ensures.1 none in
    let alone = reads_alone c.args.octets.now e.whole.now e.tag.octet e.content.now n
    (AreOctets-at c.args.octets.now (λ i. (c.type_inv.octets i).fits)) found e.encoded
    c.in_ok-element.ensures.only in
    rw alone.seen (alone.lawful, alone.encoded)

pub returns-clause-only : goal.returns-clause-only
returns-clause-only c = λ m lawful same.
    let none : length c.in_ok-rest.rest.now ≡ 0 = grind arith in
    let n : Node = c.in_ok-rest.ensures.0 in
    let e = c.in_ok-element.element in
    let found = tree_of_alone c.args.octets.now n c.in_ok-rest.rest.now c.in_ok-rest.ensures.1 none in
    let alone = reads_alone c.args.octets.now e.whole.now e.tag.octet e.content.now n
    (AreOctets-at c.args.octets.now (λ i. (c.type_inv.octets i).fits)) found e.encoded
    c.in_ok-element.ensures.only in
    alone.seen ∙ ok_is n m (sym found ∙ (ap tree_of same ∙ tree_of-encoding m lawful))
