use Rattle.std.proofs.Common.{◌≡◌, ◌<◌, ◌+◌, ◌-◌, ◌==◌, true, false, Ok, length, map, [], ◌∷◌, ◌++◌, rules, arith, sym}
use Rattle.std.proofs.Common.{ap, ◌∙◌}
use Rattle.std.proofs.lemmas.{Result.err_from_is_err_and, Grind.common_steps, List.map-append, List.length-append}
use Rattle.der.specs.Node.{bit_six, primitive, constructed}
use Rattle.der.specs.{auxiliary.Piece.piece_view, Tree.view, Tree.nodes, FirstFault.node_at}
use Rattle.der.specs.declared.tree.Tree.{Primitive, Constructed, the_lemmas}
use Rattle.der.proofs.ReadingRuns.{nodes_with_more, nodes_with_end, nodes_with_fails, node_at_none, node_at_fails}
use Rattle.der.proofs.ReadingRuns.{node_at_inner_fails, node_at_constructed, node_at_primitive}
use Rattle.der.proofs.read.+node.Goals as goal

pub read_node-returns-then-levels-eq0-clause-read : goal.read_node-returns-then-levels-eq0-clause-read
read_node-returns-then-levels-eq0-clause-read t c = node_at_none c.args.levels c.args.bytes.now c.if-levels-eq0.true

pub read_node-returns-in_err-tag-clause-read : goal.read_node-returns-in_err-tag-clause-read
read_node-returns-in_err-tag-clause-read t c =
    let p = err_from_is_err_and c.from_residual.result c.from_residual.ensures.1 in
    let some : 0 < c.args.levels = omega (arith, c.if-levels-eq0.false) in
    rw (p.1, p.2) (node_at_fails c.args.levels c.args.bytes.now _ some c.in_err-tag.ensures.read)

pub read_node-returns-in_err-components-clause-read : goal.read_node-returns-in_err-components-clause-read
read_node-returns-in_err-components-clause-read t c =
    let p = err_from_is_err_and c.from_residual-in_err-components.result c.from_residual-in_err-components.ensures.1 in
    let some : 0 < c.args.levels = omega (arith, c.if-levels-eq0.false) in
    let bit : (bit_six c.in_ok-tag.field-0.tag.octet == 1) ≡ true = search rules in
    rw (p.1, p.2) (node_at_inner_fails c.args.levels c.args.bytes.now (piece_view c.in_ok-tag.field-0) _ some
    c.in_ok-tag.ensures.read bit c.in_err-components.ensures)

pub read_node-returns-then-is_constructed-clause-read : goal.read_node-returns-then-is_constructed-clause-read
read_node-returns-then-is_constructed-clause-read t c =
    let some : 0 < c.args.levels = omega (arith, c.if-levels-eq0.false) in
    let bit : (bit_six c.in_ok-tag.field-0.tag.octet == 1) ≡ true = search rules in
    let seen : view (Constructed c.in_ok-tag.field-0.tag c.in_ok-components.components)
    ≡ constructed c.in_ok-tag.field-0.tag.octet (nodes (map view c.in_ok-components.components.items)) =
    search (rules, the_lemmas) in
    node_at_constructed c.args.levels c.args.bytes.now
    (piece_view c.in_ok-tag.field-0) _ some c.in_ok-tag.ensures.read bit c.in_ok-components.ensures
    ∙ ap (λ n. Ok (n, c.in_ok-tag.field-0.rest.now)) (sym seen)

pub read_node-returns-clause-read : goal.read_node-returns-clause-read
read_node-returns-clause-read t c =
    let some : 0 < c.args.levels = omega (arith, c.if-levels-eq0.false) in
    let bit : (bit_six c.in_ok-tag.field-0.tag.octet == 1) ≡ false = search rules in
    let copied : c.extend_from_slice.new.self.items ≡ c.in_ok-tag.field-0.contents.now = grind (arith, common_steps) in
    let seen : view (Primitive c.in_ok-tag.field-0.tag c.extend_from_slice.new.self)
    ≡ primitive c.in_ok-tag.field-0.tag.octet c.in_ok-tag.field-0.contents.now =
    rw (← copied) (search (rules, the_lemmas)) in
    node_at_primitive c.args.levels c.args.bytes.now (piece_view c.in_ok-tag.field-0) some c.in_ok-tag.ensures.read bit
    ∙ ap (λ n. Ok (n, c.in_ok-tag.field-0.rest.now)) (sym seen)

pub read_nodes-returns-in_err-tree : goal.read_nodes-returns-in_err-tree
read_nodes-returns-in_err-tree t c =
    let p = err_from_is_err_and c.from_residual.result c.from_residual.ensures.1 in
    let l = c.loop-rest in
    let some : 0 < length l.rest.now = grind arith in
    let fails = nodes_with_fails (node_at c.args.levels) (map view l.found.items)
    (length c.args.bytes.now - length l.found.items) l.rest.now _
    (omega (arith, l.invariant.room)) some c.in_err-tree.ensures.read in
    rw (p.1, p.2, ← l.invariant.same) fails

pub read_nodes-loop-rest-preserved : goal.read_nodes-loop-rest-preserved
read_nodes-loop-rest-preserved t c =
    let l = c.loop-rest in
    let some : 0 < length l.rest.now = grind arith in
    let pushed : c.push.new.self.items ≡ l.found.items ++ c.in_ok-tree.tree ∷ [] = search rules in
    let longer : length c.push.new.self.items ≡ length l.found.items + 1 = ap length pushed
    ∙ length-append l.found.items (c.in_ok-tree.tree ∷ []) in
    let turn = nodes_with_more (node_at c.args.levels) (map view l.found.items)
    (length c.args.bytes.now - length l.found.items) l.rest.now (view c.in_ok-tree.tree) c.in_ok-tree.after.now
    (omega (arith, l.invariant.room)) some c.in_ok-tree.ensures.read in
    let less : length c.args.bytes.now - length c.push.new.self.items
    ≡ length c.args.bytes.now - length l.found.items - 1 = omega (arith, longer) in
    record {
      same = rw (less, pushed, map-append) (sym turn ∙ l.invariant.same);
      room = omega (arith, longer, l.invariant.room, c.in_ok-tree.ensures.shorter);
    }

pub read_nodes-returns : goal.read_nodes-returns
read_nodes-returns t c =
    let l = c.loop-rest in
    let none : length l.rest.now ≡ 0 = grind arith in
    sym l.invariant.same ∙ nodes_with_end (node_at c.args.levels) (map view l.found.items)
    (length c.args.bytes.now - length l.found.items) l.rest.now none
