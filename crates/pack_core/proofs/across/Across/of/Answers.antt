use Rattle.std.proofs.Common.{◌∙◌, ℤ, ◌+ℤ◌, ap, sym, arith}
use Rattle.std.specs.Int.{int_max}
use Rattle.std.proofs.lemmas.List.{take_all}
use Rattle.node_core.specs.Nodes.{max_nodes}
use Rattle.pack_core.specs.declared.orders.OrderAmounts.{OrderAmounts}
use Rattle.pack_core.specs.Items.{item_width, height_above_baseline, depth_below_baseline, stretch_in, shrink_in}
use Rattle.pack_core.specs.Totals.{total, greatest_of}
use Rattle.pack_core.specs.Glue.{stretch_totals, shrink_totals}
use Rattle.pack_core.specs.Orders.{order_amounts, plus}
use Rattle.pack_core.proofs.Sums.{total_more, greatest_more}
use Rattle.pack_core.proofs.Measured.{passed-more, amounts_more}
use Rattle.pack_core.proofs.across.Across.of.Goals as goal

pub pass-requires : goal.pass-requires
pass-requires c = passed-more c.loop-node.node-index max_nodes c.loop-node.across (omega (arith, c.requires, c.loop-node-test.true)) c.loop-node.invariant.passed

pub loop-node-preserved : goal.loop-node-preserved
loop-node-preserved c =
    let xs = c.args.nodes.now in
    let i = c.loop-node.node-index in
    let x = c.node-item.result in
    record {
      width = c.pass.ensures.width ∙ ap (λ (z : ℤ). z +ℤ item_width x) c.loop-node.invariant.width ∙ sym (total_more item_width xs i x c.loop-node-test.true c.node-item.is);
      height = c.pass.ensures.height ∙ ap (λ (z : ℤ). int_max z (height_above_baseline x)) c.loop-node.invariant.height ∙ sym (greatest_more height_above_baseline xs i x c.loop-node-test.true c.node-item.is);
      depth = c.pass.ensures.depth ∙ ap (λ (z : ℤ). int_max z (depth_below_baseline x)) c.loop-node.invariant.depth ∙ sym (greatest_more depth_below_baseline xs i x c.loop-node-test.true c.node-item.is);
      stretch = c.pass.ensures.stretch ∙ ap (λ (a : OrderAmounts). plus a (λ order. stretch_in order x)) c.loop-node.invariant.stretch ∙ amounts_more stretch_in xs i x c.loop-node-test.true c.node-item.is;
      shrink = c.pass.ensures.shrink ∙ ap (λ (a : OrderAmounts). plus a (λ order. shrink_in order x)) c.loop-node.invariant.shrink ∙ amounts_more shrink_in xs i x c.loop-node-test.true c.node-item.is;
      passed = c.pass.ensures.bound i c.loop-node.invariant.passed;
    }

pub returns : goal.returns
returns c =
    let all = take_all c.loop-node.node-index c.args.nodes.now c.loop-node-test.false in
    record {
      width = c.loop-node.invariant.width ∙ ap (total item_width) all;
      height = c.loop-node.invariant.height ∙ ap (greatest_of height_above_baseline) all;
      depth = c.loop-node.invariant.depth ∙ ap (greatest_of depth_below_baseline) all;
      stretch = c.loop-node.invariant.stretch ∙ ap (λ xs. order_amounts (stretch_totals xs)) all;
      shrink = c.loop-node.invariant.shrink ∙ ap (λ xs. order_amounts (shrink_totals xs)) all;
      sums_bounded = passed-more c.loop-node.node-index max_nodes c.loop-node.across (omega (arith, c.requires, c.loop-node.auto.node-index-end)) c.loop-node.invariant.passed;
    }
