use Rattle.std.proofs.Common.{ap, arith}
use Rattle.node_core.specs.Items.{items_depth}
use Rattle.node_core.proofs.NodeLemmas.{items_depth_more, node_depth, leaf_depth, plain_depth}
use Rattle.vert_core.proofs.levels.levels.Goals as goal
use Rattle.vert_core.proofs.levels.levels.Goals.{in-Box, in_default}

pub returns-then-plain : goal.returns-then-plain
returns-then-plain c = omega (arith, plain_depth c.args.nodes.now (c.requires c.if-plain.true))

pub loop-node-preserved : goal.loop-node-preserved
loop-node-preserved c =
    let more = items_depth_more c.args.nodes.now c.loop-node.node-index c.node-item.result c.loop-node-test.true c.node-item.is in
    elim c.match-node.branch [
      | in-Box w ↦ omega (arith, more, ap node_depth w.in-Box.is, ap (λ b. items_depth b.list) w.deref.ensures, w.deepest-is, w.depth.ensures, w.max-deepest.ensures, c.loop-node.invariant)
      | in_default w ↦ omega (arith, more, leaf_depth c.node-item.result w.in_default.not-Box, w.deepest-is, c.loop-node.invariant)
    ]
