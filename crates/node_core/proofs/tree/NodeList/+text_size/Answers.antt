use Rattle.std.proofs.Common.{ap, arith, drop, length}
use Rattle.node_core.specs.Items.{items_depth, items_text}
use Rattle.node_core.proofs.NodeLemmas.{all_passed, box_shallower, items_text_more, node_text, leaf_text, plain_text}
use Rattle.node_core.proofs.tree.NodeList.+text_size.Goals as goal
use Rattle.node_core.proofs.tree.NodeList.+text_size.Goals.{in-Box, in-Special, in_default}

pub loop-node-preserved : goal.loop-node-preserved
loop-node-preserved t c =
    let more = items_text_more c.as_slice-node-items.result.now c.loop-node.node-index c.node-item.result c.loop-node-test.true c.node-item.is in
    elim c.match-node.branch [
      | in-Box w ↦ omega (arith, more, ap node_text w.in-Box.is, ap (λ b. items_text b.list) w.deref.ensures, w.size-is, w.saturating_add-size.ensures, w.text_size.ensures, c.loop-node.invariant)
      | in-Special w ↦ omega (arith, more, ap node_text w.in-Special.is, w.size-is, w.saturating_add-size-in-Special.ensures, ap length w.as_bytes.ensures.bytes, c.loop-node.invariant)
      | in_default w ↦ omega (arith, more, leaf_text c.node-item.result w.in_default.not-Box w.in_default.not-Special, w.size-is, c.loop-node.invariant)
    ]

pub returns-then-self : goal.returns-then-self
returns-then-self t c =
    omega (arith, ap items_text c.self.view_is, plain_text (drop c.self.inside.first c.self.inside.nodes.items) (c.self.invariant.3 c.if-self.true))

pub text_size-requires : goal.text_size-requires
text_size-requires t c =
    let less = box_shallower c.args.self.now _ c.loop-node.node-index c.node-item.result c.in-Box.field-0 c.in-Box.inner c.as_slice-node-items.ensures.nodes c.loop-node-test.true c.node-item.is c.in-Box.is in
    (omega (arith, less, ap (λ b. items_depth b.list) c.deref.ensures, c.decreases), tt)

pub returns : goal.returns
returns t c =
    let all = all_passed c.args.self.now c.as_slice-node-items.result.now c.loop-node.node-index c.as_slice-node-items.ensures.nodes c.loop-node-test.false in
    omega (arith, ap items_text all, c.loop-node.invariant)
