use Rattle.std.proofs.Common.{◌≡◌, take}
use Rattle.pack_core.specs.Items.{item_width, height_above_baseline, depth_below_baseline}
use Rattle.pack_core.specs.Totals.{total, greatest_of}
use Rattle.pack_core.specs.Glue.{stretch_totals, shrink_totals}
use Rattle.pack_core.specs.Orders.{order_amounts}
use Rattle.pack_core.specs.Private.Measures.{HasPassed}
use Rattle.pack_core.proofs.across.Across.of.Given as goal

abbrev pub invariant-loop-node : goal.invariant-loop-node
invariant-loop-node l = record {
  width : l.across.width ≡ total item_width (take l.node-index l.nodes);
  height : l.across.height ≡ greatest_of height_above_baseline (take l.node-index l.nodes);
  depth : l.across.depth ≡ greatest_of depth_below_baseline (take l.node-index l.nodes);
  stretch : l.across.stretch ≡ order_amounts (stretch_totals (take l.node-index l.nodes));
  shrink : l.across.shrink ≡ order_amounts (shrink_totals (take l.node-index l.nodes));
  passed : HasPassed l.node-index l.across;
}
