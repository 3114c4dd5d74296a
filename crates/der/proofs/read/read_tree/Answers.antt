use Rattle.std.proofs.Common.{◌≡◌, ◌<◌, length, arith, sym, ap, ◌∙◌}
use Rattle.std.proofs.lemmas.Result.{err_from_is_err_and}
use Rattle.der.{specs.Tree.view, specs.FirstFault.tree_of, proofs.Octets.AreOctets-at, proofs.ReadingSteps.ok_is}
use Rattle.der.proofs.ReadingNodes.{tree_of-encoding, tree_of_reads}
use Rattle.der.proofs.ReadingTree.{tree_of_alone, tree_of_more, tree_of_fails, refused_lawful}
use Rattle.der.proofs.read.read_tree.Goals as goal

pub returns-in_err-tree-clause-only : goal.returns-in_err-tree-clause-only
returns-in_err-tree-clause-only c = λ n lawful same.
    let p = err_from_is_err_and c.from_residual.result c.from_residual.ensures.1 in
    rw (p.1, p.2) (refused_lawful c.args.bytes.now _ n (tree_of_fails c.args.bytes.now _ c.in_err-tree.ensures.read)
    lawful same)

pub returns-in_err-tree-clause-refusals : goal.returns-in_err-tree-clause-refusals
returns-in_err-tree-clause-refusals c =
    let p = err_from_is_err_and c.from_residual.result c.from_residual.ensures.1 in
    rw (p.1, p.2) (tree_of_fails c.args.bytes.now _ c.in_err-tree.ensures.read)

pub returns-then-not-is_empty-clause-refusals : goal.returns-then-not-is_empty-clause-refusals
returns-then-not-is_empty-clause-refusals c =
    let some : 0 < length c.in_ok-tree.rest.now = grind arith in
    tree_of_more c.args.bytes.now (view c.in_ok-tree.tree) c.in_ok-tree.rest.now c.in_ok-tree.ensures.read some

pub returns-then-not-is_empty-clause-only : goal.returns-then-not-is_empty-clause-only
returns-then-not-is_empty-clause-only c = λ n lawful same.
    let some : 0 < length c.in_ok-tree.rest.now = grind arith in
    refused_lawful c.args.bytes.now _ n (tree_of_more c.args.bytes.now
    (view c.in_ok-tree.tree) c.in_ok-tree.rest.now c.in_ok-tree.ensures.read some) lawful same

pub returns-clause-found : goal.returns-clause-found
returns-clause-found c =
    let none : length c.in_ok-tree.rest.now ≡ 0 = grind arith in
    tree_of_reads c.args.bytes.now (view c.in_ok-tree.tree)
    (AreOctets-at c.args.bytes.now (λ i. (c.type_inv.bytes i).fits))
    (tree_of_alone c.args.bytes.now (view c.in_ok-tree.tree) c.in_ok-tree.rest.now c.in_ok-tree.ensures.read none)

pub returns-clause-only : goal.returns-clause-only
returns-clause-only c = λ n lawful same.
    let none : length c.in_ok-tree.rest.now ≡ 0 = grind arith in
    ok_is (view c.in_ok-tree.tree) n (sym (tree_of_alone c.args.bytes.now
    (view c.in_ok-tree.tree) c.in_ok-tree.rest.now c.in_ok-tree.ensures.read none)
    ∙ (ap tree_of same ∙ tree_of-encoding n lawful))
