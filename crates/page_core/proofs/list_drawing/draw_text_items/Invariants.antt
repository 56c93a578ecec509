use Rattle.std.proofs.Common.{◌≡◌, ◌≤◌, ◌-◌, take, length}
use Rattle.std.specs.Prelude.{Some}
use Rattle.std.specs.List.{list_all}
use Rattle.scaled_core.specs.Dimensions.{fits}
use Rattle.pack_core.specs.Cursors.{sums_after, place_at}
use Rattle.page_core.specs.Private.Placing.{level_with, point_in, numbers_left, drawn_left}
use Rattle.page_core.proofs.list_drawing.draw_text_items.Given as goal

abbrev pub invariant-loop-next : goal.invariant-loop-next
invariant-loop-next g l = record {
  onward : l.from ≤ l.next;
  within : l.next ≤ length l.items;
  cursor : l.place.cursor ≡ sums_after l.box_node.kind l.box_node.setting (take l.next l.items);
  at : point_in l.box_node l.begin.h l.begin.v (place_at l.box_node.setting l.place.cursor) ≡ Some (level_with l.place.v l.place.h);
  left : list_all fits (numbers_left l.box_node l.begin.h l.begin.v l.items l.next) ≡ list_all fits (numbers_left l.box_node l.begin.h l.begin.v l.items l.from);
  marks : g.S.MarkSink.drawn_with l.box_node.kind l.sink (drawn_left l.box_node l.begin.h l.begin.v l.items l.next)
      ≡ g.S.MarkSink.drawn_with l.box_node.kind l.initial.sink (drawn_left l.box_node l.begin.h l.begin.v l.items l.from);
}

abbrev pub decreases-loop-next : goal.decreases-loop-next
decreases-loop-next g l = length l.items - l.next
