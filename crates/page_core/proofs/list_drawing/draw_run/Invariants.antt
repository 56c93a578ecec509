use Rattle.std.proofs.Common.{◌≡◌, ◌≤◌, take, drop, length}
use Rattle.std.specs.Prelude.{Some, ◌+ℤ◌, ◌-ℤ◌}
use Rattle.std.specs.List.{list_all}
use Rattle.node_core.specs.Nodes.{items_of}
use Rattle.scaled_core.specs.Dimensions.{fits}
use Rattle.pack_core.specs.Cursors.{sums_after, place_at}
use Rattle.page_core.specs.Marks.{numbers_after}
use Rattle.page_core.specs.DrawnPages.{drawn_after}
use Rattle.page_core.specs.Private.Placing.{level_with, point_in}
use Rattle.page_core.proofs.list_drawing.draw_run.Given as goal

abbrev pub invariant-loop-index : goal.invariant-loop-index
invariant-loop-index g l = record {
  is_at : g.S.MarkSink.IsAt l.sink l.run.h l.run.v l.run.slot;
  onward : l.from ≤ l.index;
  within : l.index ≤ length l.items;
  natural : (sums_after l.box_node.kind l.box_node.setting (take l.index l.items)).natural ≡ (sums_after l.box_node.kind l.box_node.setting (take l.from l.items)).natural +ℤ (l.run.h -ℤ l.initial.run.h);
  shares : (sums_after l.box_node.kind l.box_node.setting (take l.index l.items)).shares ≡ (sums_after l.box_node.kind l.box_node.setting (take l.from l.items)).shares;
  at : point_in l.box_node l.begin.h l.begin.v (place_at l.box_node.setting (sums_after l.box_node.kind l.box_node.setting (take l.index l.items))) ≡ Some (level_with l.run.v l.run.h);
  left : list_all fits (numbers_after l.box_node l.begin.h l.begin.v (take l.index l.items) (items_of (drop l.index l.items))) ≡ list_all fits (numbers_after l.box_node l.begin.h l.begin.v (take l.from l.items) (items_of (drop l.from l.items)));
  marks : g.S.MarkSink.drawn_with l.box_node.kind l.sink
      (drawn_after l.box_node l.begin.h l.begin.v (take l.index l.items) (items_of (drop l.index l.items))) ≡ g.S.MarkSink.drawn_with l.box_node.kind
      l.initial.sink (drawn_after l.box_node l.begin.h l.begin.v (take l.from l.items) (items_of (drop l.from l.items)));
}
