use Rattle.std.proofs.Common.{ap, arith, drop}
use Rattle.node_core.specs.Items.{items_depth}
use Rattle.node_core.proofs.NodeLemmas.{all_passed, box_shallower, items_depth_more, node_depth, leaf_depth, plain_depth}
use Rattle.node_core.proofs.tree.NodeList.+depth.Goals as goal
use Rattle.node_core.proofs.tree.NodeList.+depth.Goals.{in-Box, in_default}

pub loop-node-preserved : goal.loop-node-preserved
loop-node-preserved t c =
    let more = items_depth_more c.as_slice-node-items.result.now c.loop-node.node-index c.node-item.result c.loop-node-test.true c.node-item.is in
    elim c.match-node.branch [
      | in-Box w ↦ omega (arith, more, ap node_depth w.in-Box.is, ap (λ b. items_depth b.list) w.deref.ensures, w.deepest-is, w.depth.ensures, w.saturating_add.ensures, w.max-deepest.ensures, c.loop-node.invariant)
      | in_default w ↦ omega (arith, more, leaf_depth c.node-item.result w.in_default.not-Box, w.deepest-is, c.loop-node.invariant)
    ]

pub returns-then-self : goal.returns-then-self
returns-then-self t c =
    omega (arith, ap items_depth c.self.view_is, plain_depth (drop c.self.inside.first c.self.inside.nodes.items) (c.self.invariant.3 c.if-self.true))

pub depth-requires : goal.depth-requires
depth-requires t c =
    let less = box_shallower c.args.self.now _ c.loop-node.node-index c.node-item.result c.in-Box.field-0 c.in-Box.inner c.as_slice-node-items.ensures.nodes c.loop-node-test.true c.node-item.is c.in-Box.is in
    (omega (arith, less, ap (λ b. items_depth b.list) c.deref.ensures, c.decreases), tt)

pub returns : goal.returns
returns t c =
    let all = all_passed c.args.self.now c.as_slice-node-items.result.now c.loop-node.node-index c.as_slice-node-items.ensures.nodes c.loop-node-test.false in
    omega (arith, ap items_depth all, c.loop-node.invariant)
