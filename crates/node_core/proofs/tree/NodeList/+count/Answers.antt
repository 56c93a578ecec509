use Rattle.std.proofs.Common.{ap, arith, drop}
use Rattle.std.proofs.lemmas.List.{length-drop}
use Rattle.node_core.specs.Items.{items_depth, items_count}
use Rattle.node_core.proofs.NodeLemmas.{all_passed, box_shallower, items_count_more, node_count, leaf_count, plain_count}
use Rattle.node_core.proofs.FreeSlots.{count_after_slots}
use Rattle.node_core.proofs.tree.NodeList.+count.Goals as goal
use Rattle.node_core.proofs.tree.NodeList.+count.Goals.{in-Box, in_default}

pub loop-node-preserved : goal.loop-node-preserved
loop-node-preserved t c =
    let more = items_count_more c.as_slice-node-items.result.now c.loop-node.node-index c.node-item.result c.loop-node-test.true c.node-item.is in
    elim c.match-node.branch [
      | in-Box w ↦ omega (arith, more, ap node_count w.in-Box.is, ap (λ b. items_count b.list) w.deref.ensures, w.count-is, w.count.ensures, w.saturating_add-count.ensures, c.loop-node-test.true, c.loop-node.invariant)
      | in_default w ↦ omega (arith, more, leaf_count c.node-item.result w.in_default.not-Box, w.count-is, c.loop-node-test.true, c.loop-node.invariant)
    ]

pub returns-then-self : goal.returns-then-self
returns-then-self t c =
    let first = c.self.inside.first in
    let nodes = c.self.inside.nodes.items in
    let within = count_after_slots first nodes c.args.self.now c.self.view_is c.self.invariant.1 in
    omega (arith, within, length-drop first nodes, c.len-count.ensures.count, ap items_count c.self.view_is, plain_count (drop first nodes) (c.self.invariant.3 c.if-self.true))

pub count-requires : goal.count-requires
count-requires t c =
    let less = box_shallower c.args.self.now _ c.loop-node.node-index c.node-item.result c.in-Box.field-0 c.in-Box.inner c.as_slice-node-items.ensures.nodes c.loop-node-test.true c.node-item.is c.in-Box.is in
    (omega (arith, less, ap (λ b. items_depth b.list) c.deref.ensures, c.decreases), tt)

pub returns : goal.returns
returns t c =
    let all = all_passed c.args.self.now c.as_slice-node-items.result.now c.loop-node.node-index c.as_slice-node-items.ensures.nodes c.loop-node-test.false in
    omega (arith, ap items_count all, c.loop-node.invariant)
