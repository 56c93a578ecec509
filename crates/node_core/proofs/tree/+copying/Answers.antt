use Rattle.std.proofs.Common.{◌≡◌, ◌∙◌, ◌≤◌, length, drop, refl, ap, arith}
use Rattle.std.proofs.lemmas.List.{take_all}
use Rattle.node_core.specs.Nodes.{max_nodes, nodes_of, items_of}
use Rattle.node_core.proofs.NodeLemmas.{all_passed, node_of_list}
use Rattle.node_core.proofs.FreeSlots.{nodes_after_slots}
use Rattle.node_core.proofs.tree.+copying.Goals as goal

pub NodeList::copy-copy-requires : goal.NodeList::copy-copy-requires
NodeList::copy-copy-requires t c =
    let less = node_of_list c.args.self.now _ c.loop-node.node-index c.node-item.result c.as_slice-node-items.ensures.nodes c.loop-node-test.true c.node-item.is in
    (omega (arith, less, c.decreases), tt)

pub NodeList::copy-invariant_of-result : goal.NodeList::copy-invariant_of-result
NodeList::copy-invariant_of-result t c =
    let passed : c.loop-node.nodes.items ≡ nodes_of c.args.self.now =
    c.loop-node.invariant ∙ take_all c.loop-node.node-index c.as_slice-node-items.result.now c.loop-node-test.false ∙ c.as_slice-node-items.ensures.nodes in
    let all = passed ∙ nodes_after_slots c.self.inside.first c.self.inside.nodes.items c.args.self.now c.self.view_is in
    let bounded : length (drop c.self.inside.first c.self.inside.nodes.items) ≤ max_nodes = omega (arith, ap length all, ap length passed, c.as_slice-node-items.ensures.list_bounded) in
    rw all (bounded, omega arith, refl, c.self.invariant.3)

pub NodeList::copy-returns : goal.NodeList::copy-returns
NodeList::copy-returns t c =
    ap items_of c.loop-node.invariant
    ∙ all_passed c.args.self.now c.as_slice-node-items.result.now c.loop-node.node-index c.as_slice-node-items.ensures.nodes c.loop-node-test.false
