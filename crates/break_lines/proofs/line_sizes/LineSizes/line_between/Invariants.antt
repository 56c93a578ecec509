use Rattle.std.proofs.Common.{◌≡◌, ◌+◌, ◌-◌, ◌<◌, ◌≤◌, ℕ, List, length}
use Rattle.node_core.specs.declared.tree.Node.{Node}
use Rattle.pack_core.specs.Items.{height_above_baseline, depth_below_baseline}
use Rattle.break_lines.specs.Facts.{begins_at, position_of}
use Rattle.break_lines.specs.Legal.{legal_places}
use Rattle.break_lines.specs.Spans.{AreSizesOf, greatest_between}
use Rattle.break_lines.proofs.Tallest.{after}
use Rattle.break_lines.proofs.line_sizes.LineSizes.line_between.Given as goal

abbrev pub invariant-loop-place : goal.invariant-loop-place
invariant-loop-place l = record {
  later : l.from < l.number;
  within : l.number < length l.self.places.items;
  height : (list : List Node) → AreSizesOf list l.self → l.height ≡ greatest_between height_above_baseline list (after (begins_at list l.from)) (position_of list l.number);
  depth : (list : List Node) → AreSizesOf list l.self → l.depth ≡ greatest_between depth_below_baseline list (after (begins_at list l.from)) (position_of list l.number);
  passed : (list : List Node) → AreSizesOf list l.self → (to : ℕ) → l.from < to → to ≤ length (legal_places list) → l.position ≡ position_of list to → l.number ≤ to;
}

abbrev pub decreases-loop-place : goal.decreases-loop-place
decreases-loop-place l = length l.self.places.items - l.number
