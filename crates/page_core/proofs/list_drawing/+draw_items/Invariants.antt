use Rattle.std.proofs.Common.{◌≡◌, ◌≤◌, ◌+◌, ◌-◌, ◌*◌, [], length, take, drop}
use Rattle.std.specs.List.{list_all}
use Rattle.node_core.specs.Items.{items_depth}
use Rattle.node_core.specs.Nodes.{items_of}
use Rattle.scaled_core.specs.Dimensions.{fits}
use Rattle.pack_core.specs.Cursors.{sums_after, place_at}
use Rattle.page_core.specs.Marks.{numbers_after}
use Rattle.page_core.specs.DrawnPages.{drawn_after}
use Rattle.page_core.specs.Private.Placing.{point_in}
use Rattle.page_core.proofs.list_drawing.+draw_items.Given as goal

abbrev pub decreases-draw_group : goal.decreases-draw_group
decreases-draw_group g l = items_depth (g.B.BoxRef.box_node l.tree).list * 2 + 1

abbrev pub decreases-draw_items : goal.decreases-draw_items
decreases-draw_items g l = items_depth (g.B.BoxRef.box_node l.tree).list * 2

abbrev pub invariant-draw_items-loop-next : goal.invariant-draw_items-loop-next
invariant-draw_items-loop-next g l = record {
  within : l.next ≤ length l.items;
  cursor : l.walk.cursor ≡ sums_after l.box_node.kind l.box_node.setting (take l.next l.items);
  here : l.walk.here ≡ point_in l.box_node l.begin.h l.begin.v (place_at l.box_node.setting l.walk.cursor);
  left : list_all fits (numbers_after l.box_node l.begin.h l.begin.v (take l.next l.items) (items_of (drop l.next l.items))) ≡ list_all fits (numbers_after l.box_node l.begin.h l.begin.v [] (items_of l.items));
  marks : g.S.MarkSink.drawn_with l.box_node.kind l.sink
      (drawn_after l.box_node l.begin.h l.begin.v (take l.next l.items) (items_of (drop l.next l.items))) ≡ g.S.MarkSink.drawn_with l.box_node.kind
      l.initial.sink (drawn_after l.box_node l.begin.h l.begin.v [] (items_of l.items));
}

abbrev pub decreases-draw_items-loop-next : goal.decreases-draw_items-loop-next
decreases-draw_items-loop-next g l = length l.items - l.next
